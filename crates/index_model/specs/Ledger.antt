-- The ledger: what is held, told by the calls alone; no cell is read. FORMAT, "The ledger".
use Rattle.std.specs.Prelude.{ℕ, zero, suc, ◌+◌, Bool, true, false, cond, not, ◌&&◌, eqb, leb, length}
use mathlib.Core.List.{List, [], ◌∷◌, ◌++◌, flat_map}
use Rattle.std.proofs.Math.Option.{Option, none, some}
use Rattle.lists.specs.Fill.{tab}
use Rattle.sample_rates.specs.Rates.{records_per_second}
use Rattle.answers.specs.Answer.{Answer, accepted, unless}
use Rattle.answers.specs.Refusal.{◌when◌, first, ◌then◌}
use Rattle.totals.specs.Total.{total_of}
use Rattle.index_model.specs.declared.Opening.{Opening}
use Rattle.index_model.specs.Records.{Record, refusal_of, number_of, second_of, has_origin, has_error, channel_samples}
use Rattle.index_model.specs.Second.{SecondTotals, no_second}
use Rattle.index_model.specs.Opening.{held_rate, other_reel, is_outside, in_window}

-- at most one record, its edition and its bytes, for each number
abbrev pub Ledger : Type 0
Ledger = ℕ → Option Record

-- the ledger of an accepted opening
abbrev pub no_records : Ledger
no_records n = none

-- the ledger with what number n has replaced
abbrev pub with_entry : Ledger → ℕ → Option Record → Ledger
with_entry ledger n held k = cond (eqb k n) held (ledger k)

abbrev pub is_held : Option Record → Bool
is_held none = false
is_held (some b) = true

-- ## a second's totals, from nothing

-- what a number has, if it is a record of second s
abbrev pub record_in : ℕ → Option Record → List Record
record_in s none = []
record_in s (some b) = cond (eqb (second_of b) s) (b ∷ []) []

-- the records of second s, of the numbers 1 to n in their order
unfoldable pub records_of : Ledger → ℕ → ℕ → List Record
records_of ledger s zero = []
records_of ledger s (suc n) = records_of ledger s n ++ record_in s (ledger (suc n))

-- how many records pass a test
unfoldable pub count_of : (Record → Bool) → List Record → ℕ
count_of test [] = 0
count_of test (b ∷ bs) = cond (test b) 1 0 + count_of test bs

-- L: the records of a full second, by the pattern's rate; said here again, so that the ledger takes nothing from the calls
abbrev pub per_second : Opening → ℕ
per_second o = records_per_second (held_rate o)

-- the totals of some records of a second: each channel's over all their samples, joined; KEPT exactly when they are L, at
-- least one with clock origin 1, and none with copy error 1
unfoldable pub totals_over : Opening → List Record → SecondTotals
totals_over o records =
    record {
      records = length records;
      origins = count_of has_origin records;
      errors = count_of has_error records;
      channels = tab (λ (channel : ℕ). total_of (flat_map (channel_samples channel) records)) 1 4;
      kept = eqb (length records) (per_second o) && leb 1 (count_of has_origin records) && eqb (count_of has_error records) 0;
    }

unfoldable pub ledger_second : Opening → Ledger → ℕ → SecondTotals
ledger_second o ledger s = totals_over o (records_of ledger s o.highest_number)

-- ## refusals

-- L records of other numbers have second s
unfoldable pub ledger_full : Opening → Ledger → ℕ → ℕ → Bool
ledger_full o ledger n s = leb (per_second o) (length (records_of (with_entry ledger n none) s o.highest_number))

unfoldable pub ledger_insert : Opening → Ledger → Record → ℕ
ledger_insert o ledger b =
    refusal_of b
    then first
    (15 when other_reel o b
    ∷ 16 when is_outside o (number_of b)
    ∷ 17 when not (in_window o (second_of b))
    ∷ 18 when ledger_full o ledger (number_of b) (second_of b)
    ∷ [])

unfoldable pub ledger_remove : Opening → Ledger → ℕ → ℕ
ledger_remove o ledger n = first (16 when is_outside o n ∷ 19 when not (is_held (ledger n)) ∷ [])

unfoldable pub ledger_query : Opening → Ledger → ℕ → Answer SecondTotals
ledger_query o ledger s = unless (first (17 when not (in_window o s) ∷ [])) no_second (ledger_second o ledger s)

-- ## calls

pub data Call : Type 0 where
  insert : Record → Call
  remove : ℕ → Call
  query : ℕ → Call
  consistency : Call

-- a refusal number or 0 for a put or take-out, and the answers to a question and to a test
pub data Reply : Type 0 where
  done : ℕ → Reply
  second : Answer SecondTotals → Reply
  tested : Answer Bool → Reply

-- the ledger after a call, and its answer: a book test gives yes
unfoldable pub ledger_step : Opening → Call → Ledger → Ledger
ledger_step o (insert b) ledger = cond (eqb (ledger_insert o ledger b) 0) (with_entry ledger (number_of b) (some b)) ledger
ledger_step o (remove n) ledger = cond (eqb (ledger_remove o ledger n) 0) (with_entry ledger n none) ledger
ledger_step o (query s) ledger = ledger
ledger_step o consistency ledger = ledger

unfoldable pub ledger_reply : Opening → Call → Ledger → Reply
ledger_reply o (insert b) ledger = done (ledger_insert o ledger b)
ledger_reply o (remove n) ledger = done (ledger_remove o ledger n)
ledger_reply o (query s) ledger = second (ledger_query o ledger s)
ledger_reply o consistency ledger = tested (accepted true)
