use mathlib.Core.Path.{refl, ◌∙◌}
use Rattle.samples.proofs.Judged.{room, judged_by_stretch}
use Rattle.samples.proofs.Part.{buffer-filled}
use Rattle.samples.proofs.read_samples.Goals as goal

pub returns : goal.returns
returns c =
    let n = c.args.edition in
    let b = c.args.bytes.now in
    let e = c.sample_stretch-stretch.ensures in
    let j = c.in_ok-judge.ensures ∙ judged_by_stretch n b _ _ _ _ e in
    let r = room n b _ _ _ _ j refl in record {
      value = j;
      one_after = buffer-filled n b _ e r.inside 1 _ _ refl r.first c.demultiplex.ensures;
      two_after = buffer-filled n b _ e r.inside 2 _ _ refl r.second c.demultiplex-2.ensures;
      three_after = buffer-filled n b _ e r.inside 3 _ _ refl r.third c.demultiplex-3.ensures;
      four_after = buffer-filled n b _ e r.inside 4 _ _ refl r.fourth c.demultiplex-4.ensures;
    }
