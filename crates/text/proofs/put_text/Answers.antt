use Rattle.text.proofs.Judging.{judged-room, judged-full, placed, too_long}
use Rattle.text.proofs.put_text.Goals as goal

pub returns-then-not-room : goal.returns-then-not-room
returns-then-not-room c =
    let a = c.args in
    let p = too_long a.out.now a.at a.text.now (judged-full a.out.now a.at a.text.now c.room.ensures c.if-not-room.true) in
    record { result_value = p.0; out_after = p.1 }

pub returns : goal.returns
returns c =
    let a = c.args in
    let p =
    placed a.out.now a.at a.text.now (judged-room a.out.now a.at a.text.now c.room.ensures c.if-not-room.false) c.write_text.ensures in
    record { result_value = p.0; out_after = p.1 }
