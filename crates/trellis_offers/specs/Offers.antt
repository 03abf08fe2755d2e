-- The least key that letters offer to a state.
use Rattle.std.specs.Prelude.{ℕ, ◌*◌, ◌+◌, ◌-◌, ◌%◌, ◌<◌, ◌≤◌, ◌≡◌, true, cond, Bool, List, eqb, length, get_or}
use Rattle.lists.specs.Least.{Least}
use Rattle.lists.specs.Marks.{Has, Listed}
use Rattle.automaton.specs.Form.{follow_of, view}
use Rattle.trellis.specs.Impossible.{TOP}
use Rattle.trellis.specs.Cells.{ByArc}

-- the key that means 'impossible': TOP, and a label that no letter has
abbrev pub FAR : ℕ
FAR = TOP * 256 + 255

-- the key of a letter
abbrev pub key_of : List ℕ → ℕ → ℕ
key_of ks j = get_or ks j 0

-- a key, or FAR if its label is `own`
abbrev pub unless_own : (key own : ℕ) → ℕ
unless_own key own = cond (eqb (key % 256) own) FAR key

-- each of the letters has a key
abbrev pub HaveKeys : List ℕ → Type 0
HaveKeys letters = (k : ℕ) → k < length letters → get_or letters k 0 < 128

-- v is the least of FAR and of what the first n of the letters offer, each of which offers something
pub record LeastOffer (Offers : ℕ → ℕ → Type 0) (letters : List ℕ) (n v : ℕ) : Type 0 where
  pub within : v ≤ FAR
  pub met : v < FAR → (k : ℕ) × (k < n) × Offers (get_or letters k 0) v
  pub least : (k : ℕ) → k < n → (m : ℕ) × Offers (get_or letters k 0) m × (v ≤ m)

-- a letter offers its key
abbrev pub OffersKey : List ℕ → ℕ → ℕ → Type 0
OffersKey ks j m = m ≡ key_of ks j

-- these are the letters that may follow letter i, or be first if i is 0
pub record Follows (f : List ℕ) (i : ℕ) (letters : List ℕ) : Type 0 where
  pub is : (k : ℕ) → k < length letters → follow_of f i (get_or letters k 0) ≡ true
  pub all : (j : ℕ) → follow_of f i j ≡ true → ∥ Listed letters (length letters) j ∥₁

-- a letter that is marked is followed by the same letters as the letter before it
pub record SameFollow (f : List ℕ) (same : List Bool) : Type 0 where
  pub size : length same ≡ 128
  pub is : (i : ℕ) → Has same i → (j : ℕ) → follow_of f i j ≡ follow_of f (i - 1) j

-- the least key along the arcs of letter i, or of the letters that may be first if i is 0, without those of label `own`
abbrev pub LeastOther : (f ks : List ℕ) (i own m : ℕ) → Type 0
LeastOther f ks i own m = Least FAR (ByArc (view f) (key_of ks) i own) m

-- along all arcs: no letter has the label 0
abbrev pub LeastKey : (f ks : List ℕ) (i m : ℕ) → Type 0
LeastKey f ks i m = LeastOther f ks i 0 m
