-- A loop that fills a buffer by a rule, one entry after the other: `Filled` is its invariant. Assumes nothing.
use Prim.Native.Nat.{ℕ, zero, suc, ◌+◌, ◌-◌, ◌≤◌, ◌<◌, min}
use mathlib.Core.Path.{◌≡◌, refl, ap, sym, ◌∙◌, subst}
use mathlib.Core.List.{List, [], ◌∷◌, ◌++◌, append-nil}
use mathlib.Core.Logic.{⊎_elim}
use native.Mathlib.Nat.{add-zero, add-suc, suc-add, le_of_suc-le-suc, not-suc-le-zero, zero-add}
use native.Mathlib.Omega.{arith}
use lib.ListN.{get_or, length, set, take, drop, drop_of_length-le, length-set, length-append, length-drop, get_or-append, get_or-eq_default}
use lib.Seq.{ext_get_or, get_or-set_same, get_or-set_other, get_or-append-add, get_or-drop}
use borrow.Author.Count.{below_more}
use Rattle.std.proofs.lemmas.List.{length-take-le, get_or-take}
use Rattle.lists.specs.Fill.{tab, over}
use Rattle.lists.proofs.Order.{le-or-lt}

module _ {A : Type 0} where
  pub length-tab : (f : ℕ → A) (k n : ℕ) → length (tab f k n) ≡ n
  length-tab f k zero = refl
  length-tab f k (suc n) = ap suc (length-tab f (suc k) n)

  get_or-tab-from : (f : ℕ → A) (k n i : ℕ) (d : A) → i < n → get_or (tab f k n) i d ≡ f (k + i)
  get_or-tab-from f k zero i d h = absurd (not-suc-le-zero h)
  get_or-tab-from f k (suc n) zero d h = ap f (sym (add-zero k))
  get_or-tab-from f k (suc n) (suc i) d h = get_or-tab-from f (suc k) n i d (le_of_suc-le-suc h)
      ∙ ap f (suc-add k i ∙ sym (add-suc k i))

  pub get_or-tab : (f : ℕ → A) (n i : ℕ) (d : A) → i < n → get_or (tab f 0 n) i d ≡ f i
  get_or-tab f n i d h = get_or-tab-from f 0 n i d h ∙ ap f (zero-add i)

  pub tab-ext : (f : ℕ → A) (n : ℕ) (d : A) (l : List A) → length l ≡ n → ((i : ℕ) → i < n → get_or l i d ≡ f i) → l ≡ tab f 0 n
  tab-ext f n d l e h =
      ext_get_or d l (tab f 0 n) (e ∙ sym (length-tab f 0 n))
      (λ i q. let q' : i < n = omega (arith, e) in h i q' ∙ sym (get_or-tab f n i d q'))

  -- one entry more at the end
  pub tab-more : (f : ℕ → A) (k n : ℕ) → tab f k (suc n) ≡ tab f k n ++ f (k + n) ∷ []
  tab-more f k zero = ap (λ (j : ℕ). f j ∷ []) (sym (add-zero k))
  tab-more f k (suc n) =
      ap (λ (l : List A). f k ∷ l) (tab-more f (suc k) n
      ∙ ap (λ (j : ℕ). tab f (suc k) n ++ f j ∷ []) (suc-add k n ∙ sym (add-suc k n)))

  -- l is b with its first n entries by the rule
  pub record Filled (b : List A) (f : ℕ → A) (d : A) (n : ℕ) (l : List A) : Type 0 where
    pub same : length l ≡ length b
    pub low : (k : ℕ) → k < n → get_or l k d ≡ f k
    pub high : (k : ℕ) → n ≤ k → get_or l k d ≡ get_or b k d

  pub filled_none : (b : List A) (f : ℕ → A) (d : A) → Filled b f d 0 b
  filled_none b f d = record { same = refl; low = λ k h. absurd (not-suc-le-zero h); high = λ k h. refl }

  pub filled_more : {b : List A} {f : ℕ → A} {d : A} {n : ℕ} {l : List A} (v : A) → n < length b → v ≡ f n → Filled b f d n l
      → Filled b f d (n + 1) (set l n v)
  filled_more {b} {f} {d} {n} {l} v h e o =
      record {
        same = length-set l n v ∙ o.same;
        low =
            below_more (λ (k : ℕ). get_or (set l n v) k d ≡ f k) n
            (λ k q. get_or-set_other l n k v d (λ z. omega (arith, z)) ∙ o.low k q)
            (get_or-set_same l n v d (omega (arith, o.same)) ∙ e);
        high = λ k q. get_or-set_other l n k v d (λ z. omega (arith, z)) ∙ o.high k (omega arith);
      }

  pub over-low : (b : List A) (f : ℕ → A) (d : A) (n k : ℕ) → k < n → get_or (over b f n) k d ≡ f k
  unfolding over
  over-low b f d n k h = get_or-append (tab f 0 n) (drop n b) d k (omega (arith, length-tab f 0 n)) ∙ get_or-tab f n k d h

  pub over-high : (b : List A) (f : ℕ → A) (d : A) (n k : ℕ) → n ≤ k → get_or (over b f n) k d ≡ get_or b k d
  unfolding over
  over-high b f d n k h =
      let m : ℕ = k - n in
      let e : length (tab f 0 n) + m ≡ k = omega (arith, length-tab f 0 n) in
      let e' : n + m ≡ k = omega arith in
      ap (λ (j : ℕ). get_or (tab f 0 n ++ drop n b) j d) (sym e) ∙ get_or-append-add (tab f 0 n) (drop n b) m d ∙ get_or-drop n b m d
      ∙ ap (λ (j : ℕ). get_or b j d) e'

  pub over_none : (b : List A) (f : ℕ → A) → over b f 0 ≡ b
  unfolding over
  over_none b f = refl

  pub length_over : (b : List A) (f : ℕ → A) (n : ℕ) → n ≤ length b → length (over b f n) ≡ length b
  unfolding over
  length_over b f n h = omega (arith, length-append (tab f 0 n) (drop n b), length-tab f 0 n, length-drop n b)

  pub filled-done : {b : List A} {f : ℕ → A} {d : A} {n : ℕ} {l : List A} → n ≤ length b → Filled b f d n l → l ≡ over b f n
  filled-done {b} {f} {d} {n} {l} h o =
      ext_get_or d l (over b f n) (o.same ∙ sym (length_over b f n h))
      (λ i q. ⊎_elim (λ p. o.high i p ∙ sym (over-high b f d n i p)) (λ p. o.low i p
      ∙ sym (over-low b f d n i p)) (le-or-lt n i))

  pub filled_at : {b : List A} {f : ℕ → A} {d : A} {m n : ℕ} {l : List A} → m ≡ n → n ≤ length b → Filled b f d m l
      → l ≡ over b f n
  filled_at {b} {f} {d} {m} {n} {l} e h o = filled-done {d = d} h (subst (λ (k : ℕ). Filled b f d k l) e o)

  -- a buffer whose front is that of a list
  pub over_front : (b l : List A) (d : A) (m n : ℕ) → m ≡ n → n ≤ length l → take m l ++ drop m b ≡ over b (λ k. get_or l k d) n
  unfolding over
  over_front b l d m n e h =
      rw e (ap (λ (x : List A). x ++ drop n b)
      (tab-ext (λ k. get_or l k d) n d (take n l) (length-take-le n l h) (λ i p. get_or-take n l i d p)))

  -- a buffer filled whole, by the first entries of a list at least as long
  pub over-short : (b l : List A) (d : A) → length b ≤ length l
      → over b (λ k. get_or l k d) (min (length l) (length b)) ≡ take (length b) l
  over-short b l d h =
      sym (over_front b l d (length b) (min (length l) (length b)) (omega arith) (omega arith))
      ∙ ap (λ (x : List A). take (length b) l ++ x) (drop_of_length-le b {i = length b} (omega arith))
      ∙ append-nil (take (length b) l)

  -- a buffer filled whole, by the entries of a list as long
  pub over-whole : (b l : List A) (d : A) → length l ≡ length b → over b (λ k. get_or l k d) (min (length l) (length b)) ≡ l
  over-whole b l d e =
      sym (filled_at {d = d} (let q : length l ≡ min (length l) (length b) = omega (arith, e) in q) (omega arith)
      (record { same = e; low = λ k h. refl; high = λ k h. past l k (omega arith) ∙ sym (past b k (omega (arith, e))) }))
    where
      past : (x : List A) (k : ℕ) → length x ≤ k → get_or x k d ≡ d
      past x k h = get_or-eq_default x d {n = k} h
