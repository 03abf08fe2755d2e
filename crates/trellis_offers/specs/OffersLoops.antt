-- The least of what letters offer, one letter more at a time; and the pairs of a list's elements.
use Rattle.std.specs.Prelude.{ℕ, zero, suc, ◌+◌, ◌*◌, ◌<◌, ◌≤◌, min, ◌≡◌, ◌⊎◌, List, [], take, drop, get_or}
use Rattle.std.proofs.Common.{sym, ap, subst, ◌∙◌, inl, inr, ⊎_elim, arith, drop-drop, get_or-take, get_or-drop}
use Rattle.std.specs.Simd.{first_chunks}
use Rattle.lists.proofs.OrderLaws.{lt_or_le, eq_or_ne}
use Rattle.trellis_offers.specs.Offers.{FAR, LeastOffer}

module _ (Offers : ℕ → ℕ → Type 0) (letters : List ℕ) where
  pub offers_none : LeastOffer Offers letters 0 FAR
  offers_none = record { within = omega arith; met = λ h. absurd (omega arith); least = λ k h. absurd (omega arith) }

  -- one more letter, which offers m
  pub offers_more :
      {n v : ℕ} → LeastOffer Offers letters n v → (m : ℕ) → Offers (get_or letters n 0) m → LeastOffer Offers letters (n + 1) (min v m)
  offers_more {n} {v} l m o =
      record {
        within = let h = l.within in omega arith;
        met = met;
        least = λ k h. least k h (eq_or_ne k n);
      }
    where
      met : min v m < FAR → (k : ℕ) × (k < n + 1) × Offers (get_or letters k 0) (min v m)
      met h =
          ⊎_elim (λ q. (let e : v ≡ min v m = omega arith in let a = l.met (omega arith) in (a.0, (let b = a.1 in omega arith), subst (Offers (get_or letters a.0 0)) e a.2)))
          (λ q. (let e : m ≡ min v m = omega arith in (n, omega arith, subst (Offers (get_or letters n 0)) e o)))
          (lt_or_le v m)

      least : (k : ℕ) → k < n + 1 → (k ≡ n) ⊎ (k ≡ n → ⊥) → (a : ℕ) × Offers (get_or letters k 0) a × (min v m ≤ a)
      least k h (inl e) = (m, subst (λ i. Offers (get_or letters i 0) m) (sym e) o, omega arith)
      least k h (inr d) = let a = l.least k (omega arith) in (a.0, a.1, (let b = a.2 in omega arith))

-- pair i of a list has its elements 2i and 2i + 1
pair_at : (c i : ℕ) (xs : List ℕ) (none : List ℕ) → i < c → get_or (first_chunks 2 c xs) i none ≡ take 2 (drop (2 * i) xs)
pair_at zero i xs none h = absurd (omega arith)
pair_at (suc c) zero xs none h = λ i. take 2 xs
pair_at (suc c) (suc i) xs none h =
    pair_at c i (drop 2 xs) none (omega arith) ∙ ap (take 2) (drop-drop (2 * i) 2 xs ∙ ap (λ n. drop n xs) (omega arith))

pub in_pair :
    {pairs : List (List ℕ)} (c : ℕ) (xs : List ℕ) → pairs ≡ first_chunks 2 c xs → (i b : ℕ) → i < c → b < 2
    → get_or (get_or pairs i []) b 0 ≡ get_or xs (2 * i + b) 0
in_pair c xs e i b h l =
    ap (λ ps. get_or (get_or ps i []) b 0) e ∙ ap (λ p. get_or p b 0) (pair_at c i xs [] h)
    ∙ get_or-take 2 (drop (2 * i) xs) b 0 l ∙ get_or-drop (2 * i) xs b 0

-- the letters after the pairs
pub in_rest : {rest : List ℕ} (n : ℕ) (xs : List ℕ) → rest ≡ drop n xs → (k : ℕ) → get_or rest k 0 ≡ get_or xs (n + k) 0
in_rest n xs e k = ap (λ r. get_or r k 0) e ∙ get_or-drop n xs k 0
