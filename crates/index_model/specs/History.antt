-- Histories: an opening and a list of calls, run on the cells and on the ledger. A call leaves the second of the record that goes
-- or is replaced, and joins that of the record put. FORMAT, "The ledger".
use Rattle.std.specs.Prelude.{ℕ, suc, ◌+◌, ◌/◌, ◌≡◌, Bool, false, ◌&&◌, ◌||◌, List, [], ◌∷◌, eqb, length, get_or}
use Rattle.std.proofs.Math.Option.{Option, none, some}
use Rattle.index_model.specs.declared.Opening.{Opening}
use Rattle.index_model.specs.Records.{Record, number_of, second_of}
use Rattle.index_model.specs.Cells.{width}
use Rattle.index_model.specs.Buffers.{Buffers}
use Rattle.index_model.specs.Calls.{insert_refusal, inserted, remove_refusal, removed, query_answer, consistency_answer}
use Rattle.index_model.specs.Ledger.{
  Ledger,
  Call,
  insert,
  remove,
  query,
  consistency,
  Reply,
  done,
  second,
  tested,
  ledger_insert,
  ledger_remove,
  ledger_step,
  ledger_reply,
}

-- the buffers after a call, and its answer
unfoldable pub step : Opening → Call → Buffers → Buffers
step o (insert b) c = inserted o b c
step o (remove n) c = removed o n c
step o (query s) c = c
step o consistency c = c

unfoldable pub reply : Opening → Call → Buffers → Reply
reply o (insert b) c = done (insert_refusal o b c)
reply o (remove n) c = done (remove_refusal o n c)
reply o (query s) c = second (query_answer o s c)
reply o consistency c = tested (consistency_answer o c)

-- over a list of calls, each on what the call before it left
abbrev pub after : Opening → List Call → Buffers → Buffers
after o [] c = c
after o (call ∷ calls) c = after o calls (step o call c)

abbrev pub replies : Opening → List Call → Buffers → List Reply
replies o [] c = []
replies o (call ∷ calls) c = reply o call c ∷ replies o calls (step o call c)

abbrev pub ledger_after : Opening → List Call → Ledger → Ledger
ledger_after o [] ledger = ledger
ledger_after o (call ∷ calls) ledger = ledger_after o calls (ledger_step o call ledger)

abbrev pub ledger_replies : Opening → List Call → Ledger → List Reply
ledger_replies o [] ledger = []
ledger_replies o (call ∷ calls) ledger = ledger_reply o call ledger ∷ ledger_replies o calls (ledger_step o call ledger)

-- ## what a call may alter, by the ledger

-- an accepted put or take-out
unfoldable pub is_accepted : Opening → Ledger → Call → Bool
is_accepted o ledger (insert b) = eqb (ledger_insert o ledger b) 0
is_accepted o ledger (remove n) = eqb (ledger_remove o ledger n) 0
is_accepted o ledger (query s) = false
is_accepted o ledger consistency = false

abbrev pub call_number : Call → ℕ
call_number (insert b) = number_of b
call_number (remove n) = n
call_number (query s) = 0
call_number consistency = 0

-- a record, or none, is of second s
abbrev pub is_of : ℕ → Option Record → Bool
is_of s none = false
is_of s (some b) = eqb (second_of b) s

-- the record that goes or is replaced is of second s; the record put is of second s
abbrev pub leaves : Ledger → Call → ℕ → Bool
leaves ledger call s = is_of s (ledger (call_number call))

abbrev pub joins : Call → ℕ → Bool
joins (insert b) s = eqb (second_of b) s
joins (remove n) s = false
joins (query s') s = false
joins consistency s = false

-- row i, from 0, is that of the record
unfoldable pub alters_row : Opening → Ledger → Call → ℕ → Bool
alters_row o ledger call i = is_accepted o ledger call && eqb (suc i) (call_number call)

-- second k of the window, from 0, is left or joined
unfoldable pub alters_second : Opening → Ledger → Call → ℕ → Bool
alters_second o ledger call k =
    is_accepted o ledger call && (leaves ledger call (o.first_second + k) || joins call (o.first_second + k))

-- cell by cell, and each buffer's length: no cell changes but those of that row and of those seconds, and nothing at all
-- where the call is no accepted put or take-out
pub record Alters (o : Opening) (ledger : Ledger) (call : Call) (old new : Buffers) : Type 0 where
  pub rows-length : length new.rows ≡ length old.rows
  pub seconds-length : length new.seconds ≡ length old.seconds
  pub rows : (m : ℕ) → alters_row o ledger call (m / width) ≡ false → get_or new.rows m 0 ≡ get_or old.rows m 0
  pub seconds : (m : ℕ) → alters_second o ledger call (m / width) ≡ false → get_or new.seconds m 0 ≡ get_or old.seconds m 0
  pub nothing : is_accepted o ledger call ≡ false → new ≡ old

-- every call of a list does so
abbrev pub EachAlters : Opening → List Call → Ledger → Buffers → Type 0
EachAlters o [] ledger c = Unit
EachAlters o (call ∷ calls) ledger c =
    Alters o ledger call c (step o call c) × EachAlters o calls (ledger_step o call ledger) (step o call c)
