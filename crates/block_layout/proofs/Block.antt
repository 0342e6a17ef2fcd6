-- One block: what is read of a block that was laid out, and a block that its parts fix. Assumes nothing.
use Prim.Native.Nat.{ℕ, suc, ◌+◌, ◌*◌, ◌/◌, ◌%◌, ◌<◌}
use mathlib.Core.Path.{◌≡◌, refl, ap, sym, ◌∙◌}
use mathlib.Core.List.{List, [], ◌∷◌, ◌++◌}
use native.Mathlib.Omega.{arith}
use lib.ListN.{length, get_or, take, drop, length-append, length-take, length-drop, take-append-drop, drop_of_length-le, get_or-append}
use lib.Seq.{drop-cons, drop-drop, get_or-append-add, get_or-take, get_or-drop}
use Rattle.lists.proofs.Fill.{length-tab, get_or-tab, tab-ext}
use Rattle.block_check.specs.Check.{block_bytes, payload_bytes, modulus, covered, check_of, word_at}
use Rattle.block_check.proofs.Changed.{Passes}
use Rattle.block_check.proofs.Weights.{weighted-same}
use Rattle.block_layout.specs.Layout.{word_bytes, payload_by, body_of, layout}

-- the two bytes of a number below 65,536 make it, and two bytes are those of the number that they make
pub word_value : (x : ℕ) → x < 65536 → x / 256 % 256 * 256 + x % 256 ≡ x
word_value x h = omega arith

pub word-bytes : (x y : ℕ) → x < 256 → y < 256 → word_bytes (x * 256 + y) ≡ x ∷ y ∷ []
word-bytes x y hx hy =
    let p : (x * 256 + y) / 256 % 256 ≡ x = omega arith in
    let q : (x * 256 + y) % 256 ≡ y = omega arith in
    λ t. p t ∷ q t ∷ []

pub length-payload : (f : ℕ → ℕ) → length (payload_by f) ≡ payload_bytes
unfolding payload_by
length-payload f = length-tab f 0 payload_bytes

pub get_or-payload : (f : ℕ → ℕ) (k : ℕ) → k < payload_bytes → get_or (payload_by f) k 0 ≡ f k
unfolding payload_by
get_or-payload f k h = get_or-tab f payload_bytes k 0 h

pub payload-ext : (f : ℕ → ℕ) (l : List ℕ) → length l ≡ payload_bytes → ((k : ℕ) → k < payload_bytes → get_or l k 0 ≡ f k) → l ≡ payload_by f
unfolding payload_by
payload-ext f l e h = tab-ext f payload_bytes 0 l e h

module _ (n i l : ℕ) (f : ℕ → ℕ) where
  pub length-body : length (body_of n i l f) ≡ covered
  unfolding body_of
  length-body = omega (arith, length-payload f)

  pub check-front : (w : List ℕ) → check_of (body_of n i l f ++ w) ≡ check_of (body_of n i l f)
  check-front w =
      ap (λ (s : ℕ). s % modulus)
      (weighted-same (body_of n i l f ++ w) (body_of n i l f) covered
      (λ k h. get_or-append (body_of n i l f) w 0 k (omega (arith, length-body))))

  pub length-layout : length (layout n i l f) ≡ block_bytes
  unfolding layout
  length-layout = omega (arith, length-append (body_of n i l f) (word_bytes (check_of (body_of n i l f))), length-body)

  pub number-laid : n < 65536 → word_at (layout n i l f) 0 ≡ n
  unfolding layout body_of
  number-laid h = word_value n h

  pub index-laid : i < 65536 → word_at (layout n i l f) 2 ≡ i
  unfolding layout body_of
  index-laid h = word_value i h

  pub length-laid : l < 65536 → word_at (layout n i l f) 4 ≡ l
  unfolding layout body_of
  length-laid h = word_value l h

  -- after the three words, the payload and the check
  pub payload-laid : drop 6 (layout n i l f) ≡ payload_by f ++ word_bytes (check_of (body_of n i l f))
  unfolding layout body_of
  payload-laid = refl

  pub byte-laid : (k : ℕ) → k < payload_bytes → get_or (layout n i l f) (6 + k) 0 ≡ f k
  byte-laid k h =
      sym (get_or-drop 6 (layout n i l f) k 0) ∙ ap (λ (x : List ℕ). get_or x k 0) payload-laid
      ∙ get_or-append (payload_by f) (word_bytes (check_of (body_of n i l f))) 0 k (omega (arith, length-payload f))
      ∙ get_or-payload f k h

  check-laid : word_at (layout n i l f) covered ≡ check_of (body_of n i l f)
  unfolding layout
  check-laid =
      let c = check_of (body_of n i l f) in
      let at : (j : ℕ) → get_or (layout n i l f) (covered + j) 0 ≡ get_or (word_bytes c) j 0 =
      λ j. ap (λ (m : ℕ). get_or (layout n i l f) (m + j) 0) (sym length-body) ∙ get_or-append-add (body_of n i l f) (word_bytes c) j 0 in
      (λ t. at 0 t * 256 + at 1 t) ∙ word_value c (omega arith)

  pub passes-laid : Passes (layout n i l f)
  unfolding layout
  passes-laid = check-laid ∙ sym (check-front (word_bytes (check_of (body_of n i l f))))

-- a block is fixed by its number, its index, its length, its payload and its check
module _ (b : List ℕ) (whole : length b ≡ block_bytes) (bytes : (k : ℕ) → get_or b k 0 < 256) where
  word-front : (j : ℕ) → suc j < block_bytes → drop j b ≡ word_bytes (get_or b j 0 * 256 + get_or b (suc j) 0) ++ drop (suc (suc j)) b
  word-front j h =
      drop-cons b j 0 (omega (arith, whole))
      ∙ ap (λ (x : List ℕ). get_or b j 0 ∷ x) (drop-cons b (suc j) 0 (omega (arith, whole)))
      ∙ ap (λ (w : List ℕ). w ++ drop (suc (suc j)) b) (sym (word-bytes (get_or b j 0) (get_or b (suc j) 0) (bytes j) (bytes (suc j))))

  pub block_fixed : (n i l : ℕ) (f : ℕ → ℕ) → word_at b 0 ≡ n → word_at b 2 ≡ i → word_at b 4 ≡ l
      → ((k : ℕ) → k < payload_bytes → get_or b (6 + k) 0 ≡ f k) → Passes b → b ≡ layout n i l f
  unfolding layout body_of
  block_fixed n i l f en ei el ef passes =
      parts
      ∙ ap (λ (c : ℕ). body_of n i l f ++ word_bytes c)
      (passes ∙ ap check_of parts ∙ check-front n i l f (word_bytes (word_at b covered)))
    where
      payload : take payload_bytes (drop 6 b) ≡ payload_by f
      payload =
          payload-ext f (take payload_bytes (drop 6 b)) (simp (length-take, length-drop) (omega (arith, whole)))
          (λ k h. get_or-take payload_bytes (drop 6 b) k 0 h ∙ get_or-drop 6 b k 0 ∙ ef k h)

      check : drop payload_bytes (drop 6 b) ≡ word_bytes (word_at b covered)
      check =
          drop-drop payload_bytes 6 b ∙ word-front covered (omega arith)
          ∙ ap (λ (x : List ℕ). word_bytes (word_at b covered) ++ x) (drop_of_length-le b {i = block_bytes} (omega (arith, whole)))

      parts : b ≡ body_of n i l f ++ word_bytes (word_at b covered)
      parts =
          word-front 0 (omega arith) ∙ (λ t. word_bytes (en t) ++ word-front 2 (omega arith) t)
          ∙ (λ t. word_bytes n ++ (word_bytes (ei t) ++ word-front 4 (omega arith) t))
          ∙ (λ t. word_bytes n ++ (word_bytes i ++ (word_bytes (el t) ++ sym (take-append-drop payload_bytes (drop 6 b)) t)))
          ∙ (λ t. word_bytes n ++ (word_bytes i ++ (word_bytes l ++ (payload t ++ check t))))
