-- Laws of letters that are added to the arrays: the arrays keep their lengths, and hold a row more for each.
use Rattle.std.specs.Prelude.{ℕ, ◌+◌, ◌≤◌, ◌<◌, ◌≡◌, Bool, false, ◌⊎◌, List, [], ◌∷◌, ◌++◌, map, length, get_or}
use Rattle.std.proofs.Common.{sym, subst, ◌∙◌, inl, inr, append_assoc, append-nil, arith, length-set, length-append, get_or-set_same, get_or-set_other}
use Rattle.std.proofs.Math.ListN.{get_or-append}
use Rattle.std.proofs.lemmas.List.{get_or_at}
use Rattle.lists.proofs.OrderLaws.{eq_or_ne}
use Rattle.wordlist_build.specs.declared.Trie.{Trie}
use Rattle.wordlist_build.specs.Arrays.{Roomy, pushed, pushes, moved}
use Rattle.wordlist_build.specs.Rows.{Row, entry, no_row, Holds, new_row}

roomy_pushed : (t : Trie) (c head x : ℕ) → Roomy t → Roomy (pushed t c head x)
roomy_pushed t c head x r =
    record {
      labels = length-set t.labels t.letters x ∙ r.labels;
      characters = length-set t.characters t.letters c ∙ r.characters;
      parents = length-set t.parents t.letters t.at ∙ r.parents;
      heads = length-set t.heads t.letters head ∙ r.heads;
      last = length-set t.last t.letters false ∙ r.last;
    }

pub roomy_pushes : (t : Trie) (c head : ℕ) (xs : List ℕ) → Roomy t → Roomy (pushes t c head xs)
unfolding pushes
roomy_pushes t c head [] r = r
roomy_pushes t c head (x ∷ xs) r = roomy_pushes (pushed t c head x) c head xs (roomy_pushed t c head x r)

pub roomy_moved : (t : Trie) (j : ℕ) → Roomy t → Roomy (moved t j)
roomy_moved t j r = record { labels = r.labels; characters = r.characters; parents = r.parents; heads = r.heads; last = r.last }

pub letters_pushes : (t : Trie) (c head : ℕ) (xs : List ℕ) → (pushes t c head xs).letters ≡ t.letters + length xs
unfolding pushes
letters_pushes t c head [] = omega arith
letters_pushes t c head (x ∷ xs) = letters_pushes (pushed t c head x) c head xs ∙ omega arith

row_same :
    {l l' c c' p p' h h' : ℕ} {e e' : Bool} → l ≡ l' → c ≡ c' → p ≡ p' → h ≡ h' → e ≡ e'
    → ◌≡◌ {A = Row} (record { label = l; character = c; parent = p; head = h; last = e }) (record { label = l'; character = c'; parent = p'; head = h'; last = e' })
row_same q r s t u = cc

-- one row more
module _ (t : Trie) (rows : List Row) (c head x : ℕ) (r : Roomy t) (few : t.letters < 127) (h : Holds t rows) where
  abbrev new : Row
  new = new_row c t.at head x

  there : entry (pushed t c head x) t.letters ≡ new
  there =
      row_same
      (get_or-set_same t.labels t.letters x 0 (let s = r.labels in omega arith))
      (get_or-set_same t.characters t.letters c 0 (let s = r.characters in omega arith))
      (get_or-set_same t.parents t.letters t.at 0 (let s = r.parents in omega arith))
      (get_or-set_same t.heads t.letters head 0 (let s = r.heads in omega arith))
      (get_or-set_same t.last t.letters false false (let s = r.last in omega arith))

  others : (i : ℕ) → (i ≡ t.letters → ⊥) → entry (pushed t c head x) i ≡ entry t i
  others i d =
      row_same
      (get_or-set_other t.labels t.letters i x 0 d)
      (get_or-set_other t.characters t.letters i c 0 d)
      (get_or-set_other t.parents t.letters i t.at 0 d)
      (get_or-set_other t.heads t.letters i head 0 d)
      (get_or-set_other t.last t.letters i false false d)

  holds_pushed : Holds (pushed t c head x) (rows ++ (new ∷ []))
  holds_pushed =
      let n = h.count in
      let size = length-append rows (new ∷ []) in
      record { count = omega arith; at = λ i l. by i l (eq_or_ne i t.letters) }
    where
      by : (i : ℕ) → i < length (rows ++ (new ∷ [])) → (i ≡ t.letters) ⊎ (i ≡ t.letters → ⊥) → entry (pushed t c head x) i ≡ get_or (rows ++ (new ∷ [])) i no_row
      by i l (inl e) =
          subst (λ k. entry (pushed t c head x) k ≡ get_or (rows ++ (new ∷ [])) k no_row) (sym e) (there ∙ sym (get_or_at rows new [] no_row t.letters (sym h.count)))
      by i l (inr n) =
          let count = h.count in
          let size = length-append rows (new ∷ []) in
          others i n ∙ h.at i (omega arith) ∙ sym (get_or-append rows (new ∷ []) no_row i (omega arith))

-- a row for each label
pub holds_pushes :
    (t : Trie) (rows : List Row) (c head : ℕ) (xs : List ℕ) → Roomy t → t.letters + length xs ≤ 127 → Holds t rows
    → Holds (pushes t c head xs) (rows ++ map (new_row c t.at head) xs)
unfolding pushes
holds_pushes t rows c head [] r few h = subst (Holds t) (sym (append-nil rows)) h
holds_pushes t rows c head (x ∷ xs) r few h =
    subst (Holds (pushes (pushed t c head x) c head xs)) (append_assoc rows (new_row c t.at head x ∷ []) (map (new_row c t.at head) xs))
    (holds_pushes (pushed t c head x) (rows ++ (new_row c t.at head x ∷ [])) c head xs (roomy_pushed t c head x r) (omega arith)
    (holds_pushed t rows c head x r (omega arith) h))

-- what has been read changes no row
pub holds_moved : (t : Trie) (j : ℕ) (rows : List Row) → Holds t rows → Holds (moved t j) rows
holds_moved t j rows h = record { count = h.count; at = h.at }
