-- Demand 3 for the exported calls, as a caller in C keeps it: `odr_open` gave an answer whose refusal is 0; its member
-- `opening`, and nothing else, goes into every later call; and nobody but those calls writes to the cells. Then, after any list
-- of calls of `odr_insert`, `odr_remove`, `odr_query` and `odr_is_consistent`, each has answered as the ledger does, every
-- second of the window has the totals and the verdict worked out from nothing over the records then held, the test says yes,
-- and each call altered only what it may. What `odr_second_means` answers then is the ledger's too.
--
-- `odr_open` promises what `promised` says, and the later calls promise to be the `insert_refusal`, `inserted`, `query_answer`
-- and so on that a history is made of, with the opening that they are given. Assumes nothing.
use Prim.Native.Nat.{ℕ}
use mathlib.Core.Path.{◌≡◌, ap, sym, ◌∙◌, subst}
use mathlib.Core.Bool.{true}
use mathlib.Core.List.{List}
use Rattle.answers.specs.Answer.{accepted, told}
use Rattle.answers.proofs.Refusals.{given-value}
use Rattle.index_model.specs.declared.Opening.{Opening}
use Rattle.index_model.specs.Records.{Record}
use Rattle.index_model.specs.Opening.{opening_of, no_opening, open_refusal, open_answer, opened}
use Rattle.index_model.specs.Ledger.{Call, no_records}
use Rattle.index_model.specs.Calls.{consistency_answer}
use Rattle.index_model.specs.Buffers.{Buffers}
use Rattle.index_model.specs.History.{after, ledger_after}
use Rattle.index_model.proofs.Opened.{returned}
use Rattle.index_model.proofs.Demand3.{Demand3, demand3, SaysYes, test-says-yes}
use Rattle.index_means.specs.Means.{means_answer}
use Rattle.index_means.specs.OfLedger.{ledger_means_answer}
use Rattle.index_means.proofs.History.{ByLedger, means-of-history}
use Rattle.c_answers.specs.declared.OpenOut.{OpenOut}

module _ (pattern : Record) (F C R : ℕ) (c : Buffers)
    (r : OpenOut) (promised : told r.refusal r.opening ≡ open_answer pattern F C R c) (none : r.refusal
    ≡ 0) (calls : List Call) where
  given : (open_refusal pattern F C R c ≡ 0) × (r.opening ≡ opening_of pattern F C R)
  unfolding open_answer
  given =
      given-value (open_refusal pattern F C R c) no_opening (opening_of pattern F C R) r.opening
      (ap (λ (n : ℕ). told n r.opening) (sym none) ∙ promised)

  same : (open_answer pattern F C R c).value ≡ r.opening
  same = returned pattern F C R c given.0 ∙ sym given.1

  pub exported : Demand3 r.opening (opened pattern F C R c) calls
  exported =
      subst (λ (o : Opening). Demand3 o (opened pattern F C R c) calls) same
      (demand3 pattern F C R c given.0 calls)

  abbrev pub end : Buffers
  end = after r.opening calls (opened pattern F C R c)

  pub exported-test : consistency_answer r.opening end ≡ accepted true
  exported-test = subst (SaysYes pattern F C R c given.0 calls) same (test-says-yes pattern F C R c given.0 calls)

  pub exported-means : (s : ℕ) → means_answer r.opening s end
      ≡ ledger_means_answer r.opening (ledger_after r.opening calls no_records) s
  exported-means s = subst (ByLedger pattern F C R c given.0 calls s) same
      (means-of-history pattern F C R c given.0 calls s)
