-- How the code counts: from a start that any sample replaces, a total takes one sample and gives back the next total. FORMAT,
-- "The index of seconds". Only the library's own functions cite this.
use Rattle.std.specs.Prelude.{ℕ, ◌+◌, ◌-◌, ◌*◌, ◌^◌, ◌<◌, ℤ, pos, negsuc, nat_abs, ◌+ℤ◌, get_or, set}
use mathlib.Core.List.{List, foldl}
use Rattle.lists.specs.Fill.{tab}
use Rattle.totals.specs.declared.Total.{Total}
use Rattle.channels.specs.Sample.{sample_of, samples_of}
use Rattle.totals.specs.Total.{sum_of, squares_of, lesser, greater, clipped_one, clipped_of, no_total, count_limit}

-- the total with one sample more
unfoldable pub next_of : Total → ℤ → Total
next_of total sample =
    record {
      sum = total.sum +ℤ sample;
      squares = total.squares + nat_abs sample * nat_abs sample;
      least = lesser total.least sample;
      greatest = greater total.greatest sample;
      clipped = total.clipped + clipped_one sample;
    }

-- a total whose sums and count are far from the ends of their widths, so that one sample more fits
abbrev pub room_limit : ℕ
room_limit = 2 ^ 62

pub record Room (total : Total) : Type 0 where
  pub sums : nat_abs total.sum < room_limit
  pub squared : total.squares < room_limit
  pub counted : total.clipped < count_limit

-- the running total: it starts from least 127 and greatest -128, so that the first sample becomes both
unfoldable pub running_of : List ℤ → Total
running_of samples =
    record {
      sum = sum_of samples;
      squares = squares_of samples;
      least = foldl lesser (pos 127) samples;
      greatest = foldl greater (negsuc 127) samples;
      clipped = clipped_of samples;
    }

-- the running totals of channels 1 to 4 over the first n samples of each
unfoldable pub runnings_of : List ℕ → ℕ → List Total
runnings_of stretch n = tab (λ (channel : ℕ). running_of (samples_of stretch channel n)) 1 4

-- the total of a channel (1 to 4)
abbrev pub total_at : List Total → ℕ → Total
total_at totals channel = get_or totals (channel - 1) no_total

-- the totals with one channel's total replaced by the next, for its sample k
unfoldable pub channel_next : List Total → List ℕ → ℕ → ℕ → List Total
channel_next totals stretch channel k =
    set totals (channel - 1) (next_of (total_at totals channel) (sample_of stretch channel k))
