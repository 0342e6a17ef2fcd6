-- The means of every history. Take any accepted opening, whatever its buffers held before, and any list of calls, as demand 3
-- does (crates/index_model/proofs/Demand3.antt). A question then about the means of a second is answered as the ledger answers
-- it: 17 outside the window, else for each channel the sum, and the sum of squares, of the samples of the records then held in
-- that second, over the number of those samples. Assumes nothing.
use Prim.Native.Nat.{ℕ, ◌*◌}
use mathlib.Core.Path.{◌≡◌, refl, ap, sym, ◌∙◌, subst}
use mathlib.Core.Bool.{Bool, true, false, not}
use mathlib.Core.List.{List, [], ◌∷◌, flat_map}
use lib.IntN.{ℤ}
use lib.ListN.{length}
use Rattle.answers.specs.Answer.{accepted, unless}
use Rattle.answers.specs.Refusal.{◌when◌, first}
use Rattle.totals.specs.Total.{total_of}
use Rattle.index_model.specs.declared.Opening.{Opening}
use Rattle.index_model.specs.Records.{Record, channel_samples}
use Rattle.index_model.specs.Second.{no_second}
use Rattle.index_model.specs.Buffers.{Buffers}
use Rattle.index_model.specs.Opening.{in_window, opening_of, open_refusal, open_answer, opened}
use Rattle.index_model.specs.Ledger.{Ledger, no_records, records_of, totals_over, ledger_second, ledger_query, Call}
use Rattle.index_model.specs.History.{after, ledger_after}
use Rattle.index_model.proofs.Sound.{SoundLedger, per_record}
use Rattle.index_model.proofs.Decoded.{second-sound, joined_length}
use Rattle.index_model.proofs.Judging.{ask-answered}
use Rattle.index_model.proofs.Opened.{returned}
use Rattle.index_model.proofs.Demand3.{fits, ended}
use Rattle.index_means.specs.Means.{means_of, no_means_each, second_means, means_by, means_answer}
use Rattle.index_means.specs.OfLedger.{ledger_means, ledger_means_answer}

-- the records' samples are as many as the samples counted one by one
module _ (o : Opening) (L : Ledger) (sound : SoundLedger o L) (s : ℕ) where
  abbrev samples : ℕ → List ℤ
  samples channel = flat_map (channel_samples channel) (records_of L s o.highest_number)

  counted : (channel : ℕ) → length (records_of L s o.highest_number) * per_record o ≡ length (samples channel)
  counted channel =
      sym (joined_length o channel (records_of L s o.highest_number) (second-sound L sound s o.highest_number))

  by-ledger : second_means o (ledger_second o L s) ≡ ledger_means o L s
  unfolding ledger_second totals_over ledger_means
  by-ledger =
      λ t. means_of (total_of (samples 1)) (counted 1 t) ∷ means_of (total_of (samples 2)) (counted 2 t)
      ∷ means_of (total_of (samples 3)) (counted 3 t) ∷ means_of (total_of (samples 4)) (counted 4 t) ∷ []

  pub answered : means_by o (ledger_query o L s) ≡ ledger_means_answer o L s
  unfolding ledger_query ledger_means_answer
  answered = by-test (in_window o s)
    where
      by-test : (t : Bool) → means_by o (unless (first (17 when not t ∷ [])) no_second (ledger_second o L s))
          ≡ unless (first (17 when not t ∷ [])) no_means_each (ledger_means o L s)
      by-test true = λ t. accepted (by-ledger t)
      by-test false = refl

module _ (pattern : Record) (F C R : ℕ) (c : Buffers) (none : open_refusal pattern F C R c ≡ 0) (calls : List Call) (s : ℕ) where
  abbrev pub ByLedger : Opening → Type 0
  ByLedger o =
      means_answer o s (after o calls (opened pattern F C R c)) ≡ ledger_means_answer o (ledger_after o calls no_records) s

  pub means-of-history : ByLedger (open_answer pattern F C R c).value
  unfolding means_answer
  means-of-history = subst ByLedger (sym (returned pattern F C R c none)) proved
    where
      o : Opening
      o = opening_of pattern F C R

      proved : ByLedger o
      proved =
          let end = ended pattern F C R c none calls in
          let L = ledger_after o calls no_records in
          ap (means_by o) (ask-answered o (fits pattern F C R c none calls) L (after o calls (opened pattern F C R c)) end.0
          end.1 s)
          ∙ answered o L end.0.sound s
