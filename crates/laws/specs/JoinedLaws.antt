-- How long `list_of` and `joined` are, and what stands where in them.
use Prim.Native.Nat.{ℕ, zero, suc, ◌+◌, ◌*◌, ◌≤◌, ◌<◌}
use Rattle.std.specs.Prelude.{List, [], ◌∷◌, ◌≡◌, refl, get_or, take}
use Rattle.std.proofs.Math.Logic.{⊎_elim}
use Rattle.std.proofs.Math.Path.{sym}
use Rattle.std.proofs.Common.{ap, ◌∙◌, zero-mul, suc-mul, eq-or-lt_of_le, le_of_suc-le-suc, not-suc-le-zero, le_refl, le_of_lt, add-one, arith, take-suc, get_or-append-add}
use Rattle.std.proofs.Math.Nat.{le_step}
use Rattle.std.proofs.Math.Arith.{digits_lt}
use Rattle.std.proofs.Math.ListN.{length, length-append, get_or-append}
use Rattle.std.proofs.lemmas.List.{get_or_at}
use Rattle.laws.specs.Lists.{list_of, joined}

pub length-list_of {ℓ} : {A : Type ℓ} (f : ℕ → A) (n : ℕ) → length (list_of f n) ≡ n
unfolding list_of
length-list_of f zero = refl
length-list_of f (suc n) = rw (length-append, length-list_of f n, add-one)

pub get_d-list_of {ℓ} : {A : Type ℓ} (f : ℕ → A) (n k : ℕ) (d : A) → k < n → get_or (list_of f n) k d ≡ f k
unfolding list_of
get_d-list_of f zero k d h = absurd (not-suc-le-zero h)
get_d-list_of f (suc n) k d h =
    ⊎_elim
    (λ (e : k ≡ n). get_or_at (list_of f n) (f n) [] d k (length-list_of f n ∙ sym e) ∙ ap f (sym e))
    (λ (l : k < n).
    let short : k < length (list_of f n) = rw length-list_of l in
    get_or-append (list_of f n) (f n ∷ []) d k short ∙ get_d-list_of f n k d l)
    (eq-or-lt_of_le (le_of_suc-le-suc h))

pub list_of-same {ℓ} : {A : Type ℓ} (f g : ℕ → A) (n : ℕ) → ((i : ℕ) → i < n → f i ≡ g i) → list_of f n ≡ list_of g n
unfolding list_of
list_of-same f g zero same = refl
list_of-same f g (suc n) same = cc (list_of-same f g n (λ i l. same i (le_step l)), same n (le_refl (suc n)))

pub take_is-list_of {ℓ} : {A : Type ℓ} (l : List A) (d : A) (n : ℕ) → n ≤ length l → take n l ≡ list_of (λ i. get_or l i d) n
unfolding list_of
take_is-list_of l d zero h = refl
take_is-list_of l d (suc n) h = take-suc l n d h ∙ rw (take_is-list_of l d n (le_of_lt h))

module _ {ℓ} {A : Type ℓ} (f : ℕ → List A) (width : ℕ) where
  -- parts of one width
  pub length_joined : (n : ℕ) → ((k : ℕ) → k < n → length (f k) ≡ width) → length (joined f n) ≡ n * width
  unfolding joined
  length_joined zero wide = sym (zero-mul width)
  length_joined (suc n) wide =
      length-append (joined f n) (f n)
      ∙ rw (length_joined n (λ k h. wide k (omega arith)), wide n (le_refl (suc n)), suc-mul)

  pub get_d-joined : (d : A) (n : ℕ) → ((k : ℕ) → k < n → length (f k) ≡ width) →
      (k t : ℕ) → k < n → t < width → get_or (joined f n) (k * width + t) d ≡ get_or (f k) t d
  unfolding joined
  get_d-joined d zero wide k t h l = absurd (not-suc-le-zero h)
  get_d-joined d (suc n) wide k t h l =
      let before : length (joined f n) ≡ n * width = length_joined n (λ m b. wide m (omega arith)) in
      ⊎_elim
      (λ (e : k ≡ n).
      rw (e, ← before) (get_or-append-add (joined f n) (f n) t d))
      (λ (b : k < n).
      let short : k * width + t < length (joined f n) = rw before (digits_lt b l) in
      get_or-append (joined f n) (f n) d (k * width + t) short
      ∙ get_d-joined d n (λ m c. wide m (omega arith)) k t b l)
      (eq-or-lt_of_le (le_of_suc-le-suc h))
