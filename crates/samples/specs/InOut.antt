-- Samples out to four channel buffers and back in. FORMAT, "Samples", "Refusal numbers" (12).
use Rattle.std.specs.Prelude.{ℕ, Bool, cond, ◌||◌, List, [], ◌∷◌, eqb, ltb, ℤ}
use Rattle.lists.specs.Fill.{over}
use Rattle.channels.specs.Sample.{sample_of, interleaved}
use Rattle.answers.specs.Refusal.{◌when◌, first, ◌then◌}
use Rattle.record.specs.Record.{record_refusal}
use Rattle.record.specs.Stretch.{sample_count, stretch_of, with_stretch}

-- one of four buffers of these lengths holds fewer samples than so many
abbrev pub fewer : ℕ → ℕ → ℕ → ℕ → ℕ → Bool
fewer count one two three four = ltb one count || (ltb two count || (ltb three count || ltb four count))

-- the refusal for the record b of the edition n and four channel buffers of these lengths: 25, 1 to 11, then 12
unfoldable pub samples_refusal : ℕ → List ℕ → ℕ → ℕ → ℕ → ℕ → ℕ
samples_refusal n b one two three four = record_refusal n b then first (12 when fewer (sample_count n b) one two three four ∷ [])

-- a channel's buffer after samples went out: its first places are the channel's samples; after a refusal it is as it was
unfoldable pub channel_after : ℕ → ℕ → List ℕ → ℕ → List ℤ → List ℤ
channel_after refusal n b channel buffer =
    cond (eqb refusal 0) (over buffer (sample_of (stretch_of n b) channel) (sample_count n b)) buffer

-- the record after samples came in: its stretch is the bytes of the four channels' samples; after a refusal it is as it was
unfoldable pub record_after : ℕ → ℕ → List ℕ → List ℤ → List ℤ → List ℤ → List ℤ → List ℕ
record_after refusal n b one two three four =
    cond (eqb refusal 0) (with_stretch n b (interleaved (sample_count n b) one two three four)) b
