-- The calls after opening, on any cells whatever: what each answers, and the buffers that it leaves. FORMAT, "The index of
-- seconds". A put or take-out that is refused leaves every cell as it was; a question and a test change none.
use Rattle.std.specs.Prelude.{ℕ, zero, suc, ◌+◌, ◌-◌, ◌*◌, ◌%◌, Bool, true, false, cond, not, ◌&&◌, ◌||◌, List, [], ◌∷◌, eqb, leb, ℤ, pos, ◌-ℤ◌, get_or}
use Rattle.lists.specs.Fill.{tab}
use Rattle.channels.specs.Sample.{signed_of}
use Rattle.sample_rates.specs.Rates.{records_per_second, samples_per_record}
use Rattle.answers.specs.Answer.{Answer, unless}
use Rattle.answers.specs.Refusal.{◌when◌, first, ◌then◌}
use Rattle.totals.specs.declared.Total.{Total}
use Rattle.totals.specs.Total.{no_total}
use Rattle.index_model.specs.declared.Opening.{Opening}
use Rattle.index_model.specs.Records.{Record, refusal_of, number_of, second_of}
use Rattle.index_model.specs.Second.{SecondTotals, no_second}
use Rattle.index_model.specs.Cells.{
  width,
  channel_cell,
  least_at,
  sum_at,
  squares_at,
  clipped_at,
  greatest_at,
  sample_offset,
  greatest_offset,
  cell,
  block_at,
  with_block,
  row_of,
  no_row,
  flag,
  merged,
  row_within,
  cell_from,
  second_from,
}
use Rattle.index_model.specs.Buffers.{Buffers}
use Rattle.index_model.specs.Opening.{held_rate, opening_refusal, other_reel, is_outside, in_window, window_place}

-- L: the records of a full second
abbrev pub full_count : Opening → ℕ
full_count o = records_per_second (held_rate o)

-- ## what a changed row does to the seconds

-- the second that an old row was of, worked out anew from the rows; a row that was not held was of none
unfoldable pub leave : Opening → List ℕ → ℕ → ℕ → List ℕ → List ℕ
leave o rows held old seconds =
    cond (not (eqb held 0) && in_window o old)
    (with_block seconds (window_place o old) (second_from rows old o.highest_number))
    seconds

-- a row added to the second at a place, unless that second was worked out anew with it
unfoldable pub join : Bool → List ℕ → ℕ → List ℕ → List ℕ
join anew seconds k row = cond anew seconds (with_block seconds k (merged (block_at seconds k) row))

-- row i replaced by a row of second s: the second that the old row was of is left, and second s is joined
unfoldable pub seconds_inserted : Opening → ℕ → ℕ → List ℕ → Buffers → List ℕ
seconds_inserted o i s row c =
    join (row_within c.rows i s) (leave o (with_block c.rows i row) (cell c.rows i 0) (cell c.rows i 3) c.seconds)
    (window_place o s)
    row

abbrev pub row_inserted : Opening → ℕ → ℕ → List ℕ → Buffers → Buffers
row_inserted o i s row c = record { rows = with_block c.rows i row; seconds = seconds_inserted o i s row c }

-- row i cleared: the second that the old row was of is left
unfoldable pub seconds_removed : Opening → ℕ → Buffers → List ℕ
seconds_removed o i c = leave o (with_block c.rows i no_row) (cell c.rows i 0) (cell c.rows i 3) c.seconds

abbrev pub row_removed : Opening → ℕ → Buffers → Buffers
row_removed o i c = record { rows = with_block c.rows i no_row; seconds = seconds_removed o i c }

-- ## put

-- second s has L records beside row i: that row itself does not count where it is of that second
unfoldable pub is_full : Opening → ℕ → ℕ → Buffers → Bool
is_full o i s c = leb (full_count o + flag (row_within c.rows i s)) (cell c.seconds (window_place o s) 0)

module _ (o : Opening) (b : Record) (c : Buffers) where
  unfoldable pub insert_refusal : ℕ
  insert_refusal =
      refusal_of b
      then opening_refusal o c
      then first
      (15 when other_reel o b
      ∷ 16 when is_outside o (number_of b)
      ∷ 17 when not (in_window o (second_of b))
      ∷ 18 when is_full o (number_of b - 1) (second_of b) c
      ∷ [])

  unfoldable pub inserted : Buffers
  inserted = cond (eqb insert_refusal 0) (row_inserted o (number_of b - 1) (second_of b) (row_of b) c) c

-- ## take out

module _ (o : Opening) (n : ℕ) (c : Buffers) where
  unfoldable pub remove_refusal : ℕ
  remove_refusal =
      opening_refusal o c
      then first (16 when is_outside o n ∷ 19 when eqb (cell c.rows (n - 1) 0) 0 ∷ [])

  unfoldable pub removed : Buffers
  removed = cond (eqb remove_refusal 0) (row_removed o (n - 1) c) c

-- ## ask

-- least and greatest from their cells: 128 - x and x - 129. A history leaves 1 to 256 there; any other cell counts modulo
-- 256, so that a signed byte comes of it
abbrev pub least_from : ℕ → ℤ
least_from x = signed_of ((256 + sample_offset - x % 256) % 256)

abbrev pub greatest_from : ℕ → ℤ
greatest_from x = signed_of ((x + (256 - greatest_offset)) % 256)

-- the total of a channel (1 to 4) from the cells of a second that has n samples of it
abbrev pub channel_shown : ℕ → List ℕ → ℕ → Total
channel_shown n second channel =
    record {
      sum = pos (get_or second (channel_cell channel sum_at) 0) -ℤ pos (sample_offset * n);
      squares = get_or second (channel_cell channel squares_at) 0;
      least = least_from (get_or second (channel_cell channel least_at) 0);
      greatest = greatest_from (get_or second (channel_cell channel greatest_at) 0);
      clipped = get_or second (channel_cell channel clipped_at) 0;
    }

-- a second of no records has 0 throughout
unfoldable pub total_from : ℕ → List ℕ → ℕ → Total
total_from n second channel = cond (eqb (get_or second 0 0) 0) no_total (channel_shown n second channel)

-- KEPT: L records, at least one with clock origin 1, none with copy error 1
unfoldable pub kept_from : ℕ → List ℕ → Bool
kept_from full second = eqb (get_or second 0 0) full && leb 1 (get_or second 1 0) && eqb (get_or second 2 0) 0

-- what the cells of a second say
unfoldable pub second_shown : Opening → List ℕ → SecondTotals
second_shown o second =
    record {
      records = get_or second 0 0;
      origins = get_or second 1 0;
      errors = get_or second 2 0;
      channels = tab (total_from (get_or second 0 0 * samples_per_record (held_rate o)) second) 1 4;
      kept = kept_from (full_count o) second;
    }

module _ (o : Opening) (s : ℕ) (c : Buffers) where
  unfoldable pub query_refusal : ℕ
  query_refusal = opening_refusal o c then first (17 when not (in_window o s) ∷ [])

  unfoldable pub query_answer : Answer SecondTotals
  query_answer = unless query_refusal no_second (second_shown o (block_at c.seconds (window_place o s)))

-- ## book test

-- no held row among the first n has a second outside the window
unfoldable pub rows_inside : Opening → List ℕ → ℕ → Bool
rows_inside o rows zero = true
rows_inside o rows (suc i) = rows_inside o rows i && (eqb (cell rows i 0) 0 || in_window o (cell rows i 3))

-- the first n cells of a second are those that the rows give
unfoldable pub cells_right : Opening → Buffers → ℕ → ℕ → Bool
cells_right o c k zero = true
cells_right o c k (suc j) =
    cells_right o c k j && eqb (cell c.seconds k j) (cell_from c.rows (o.first_second + k) j o.highest_number)

-- all cells of the first n seconds are those that the rows give
unfoldable pub seconds_right : Opening → Buffers → ℕ → Bool
seconds_right o c zero = true
seconds_right o c (suc k) = seconds_right o c k && cells_right o c k width

module _ (o : Opening) (c : Buffers) where
  unfoldable pub is_consistent : Bool
  is_consistent = rows_inside o c.rows o.highest_number && seconds_right o c o.second_count

  unfoldable pub consistency_answer : Answer Bool
  consistency_answer = unless (opening_refusal o c) false is_consistent
