-- Letters given as a list and two places in it, b and e: what is looked up there, and what its letters offer.
use Rattle.std.specs.Prelude.{ℕ, ◌%◌, ◌<◌, ◌≤◌, ◌≡◌, List, length, get_or}
use Rattle.automaton.specs.Form.{letters_of}
use Rattle.automaton.specs.Valid.{Valid}
use Rattle.form_starts.specs.Starts.{ArcStarts}
use Rattle.form_arcs.specs.Targets.{Targets}
use Rattle.trellis_keys.specs.Keys.{Keys}
use Rattle.trellis_offers.specs.Offers.{key_of}

-- the key of the letter that the list has at k
abbrev pub key_at : (list ks : List ℕ) (k : ℕ) → ℕ
key_at list ks k = key_of ks (get_or list k 0)

-- the list has places from b up to e, and its letters there have keys
pub record Looked (list ks : List ℕ) (b e : ℕ) : Type 0 where
  pub rises : b ≤ e
  pub inside : e ≤ length list
  pub within : (k : ℕ) → b ≤ k → k < e → get_or list k 0 < length ks

-- what the letter at k offers
abbrev pub KeyAt : (list ks : List ℕ) (k n : ℕ) → Type 0
KeyAt list ks k n = n ≡ key_at list ks k

-- the same, unless the label of the key is `own`
abbrev pub OtherAt : (list ks : List ℕ) (own k n : ℕ) → Type 0
OtherAt list ks own k n = (key_at list ks k % 256 ≡ own → ⊥) × (n ≡ key_at list ks k)

-- letter i of a valid form, the form's targets and where each letter's arcs start, and the keys
pub record Known (f ts s ks : List ℕ) (i : ℕ) : Type 0 where
  pub valid : Valid f
  pub targets : Targets f ts
  pub starts : ArcStarts f s
  pub keys : Keys f ks
  pub size : length ks ≡ 128
  pub low : 1 ≤ i
  pub high : i ≤ letters_of f
