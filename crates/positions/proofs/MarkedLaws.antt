-- An opened expression's words written by the numbers of their letters: they are the walks through its positions.
use Rattle.std.specs.Prelude.{ℕ, ◌+◌, ◌-◌, ◌≤◌, ◌<◌, ◌≡◌, refl, ◌⊎◌, List, [], ◌∷◌, ◌++◌, map, length, get_or}
use Rattle.std.proofs.Common.{sym, ap, ap₂, subst, ◌∙◌, inl, inr, arith, length-append, get_or-append-add}
use Rattle.std.proofs.Math.ListN.{get_or-append}
use Rattle.lists.proofs.OrderLaws.{lt_or_le}
use Rattle.automaton.specs.Automaton.{Walk}
use Rattle.positions.specs.Opened.{Opened, letter, joining, alternation, optional, star, plus, empty, never, labels, letters}
use Rattle.positions.specs.OpenedWords.{OpenedWords}
use Rattle.positions.specs.Numbered.{numbered, joint, choice, perhaps, again, assembled}
use Rattle.positions.proofs.EquationsLaws.{letters_joining, letters_alternation}
use Rattle.positions.proofs.WalksLaws.{Exact}
use Rattle.positions.proofs.Exact.{Labelled, opened_exact}

-- the numbers of the letters in place of their labels
unfoldable pub marked : ℕ → Opened → Opened
marked n (letter a) = letter n
marked n (joining r s) = joining (marked n r) (marked (n + letters r) s)
marked n (alternation r s) = alternation (marked n r) (marked (n + letters r) s)
marked n (optional r) = optional (marked n r)
marked n (star r) = star (marked n r)
marked n (plus r) = plus (marked n r)
marked n empty = empty
marked n never = never

marked_letters : (n : ℕ) (r : Opened) → letters (marked n r) ≡ letters r
unfolding marked labels
marked_letters n (letter a) = refl
marked_letters n (joining r s) =
    letters_joining (marked n r) (marked (n + letters r) s) ∙ ap₂ ◌+◌ (marked_letters n r) (marked_letters (n + letters r) s) ∙ sym (letters_joining r s)
marked_letters n (alternation r s) =
    letters_alternation (marked n r) (marked (n + letters r) s) ∙ ap₂ ◌+◌ (marked_letters n r) (marked_letters (n + letters r) s) ∙ sym (letters_alternation r s)
marked_letters n (optional r) = marked_letters n r
marked_letters n (star r) = marked_letters n r
marked_letters n (plus r) = marked_letters n r
marked_letters n empty = refl
marked_letters n never = refl

-- positions do not depend on labels
marked_numbered : (n : ℕ) (r : Opened) → numbered n (marked n r) ≡ numbered n r
unfolding marked numbered
marked_numbered n (letter a) = refl
marked_numbered n (joining r s) =
    ap₂ joint (marked_numbered n r) (ap (λ k. numbered (n + k) (marked (n + letters r) s)) (marked_letters n r) ∙ marked_numbered (n + letters r) s)
marked_numbered n (alternation r s) =
    ap₂ choice (marked_numbered n r) (ap (λ k. numbered (n + k) (marked (n + letters r) s)) (marked_letters n r) ∙ marked_numbered (n + letters r) s)
marked_numbered n (optional r) = ap perhaps (marked_numbered n r)
marked_numbered n (star r) = ap (λ p. perhaps (again p)) (marked_numbered n r)
marked_numbered n (plus r) = ap again (marked_numbered n r)
marked_numbered n empty = refl
marked_numbered n never = refl

-- each letter is labelled with its number
abbrev pub self : ℕ → ℕ
self i = i

self_append : (n : ℕ) (l m : List ℕ) → Labelled self n l → Labelled self (n + length l) m → Labelled self n (l ++ m)
self_append n l m h g i d = by (lt_or_le i (length l))
  where
    by : (i < length l) ⊎ (length l ≤ i) → n + i ≡ get_or (l ++ m) i 0
    by (inl e) = h i e ∙ sym (get_or-append l m 0 i e)
    by (inr e) =
        let z : i ≡ length l + (i - length l) = omega arith in
        let o : i - length l < length m = omega (arith, length-append l m) in
        let y : n + i ≡ n + length l + (i - length l) = omega arith in
        y ∙ g (i - length l) o ∙ sym (get_or-append-add l m (i - length l) 0) ∙ ap (λ k. get_or (l ++ m) k 0) (sym z)

marked_both : (n : ℕ) (r s : Opened) → Labelled self n (labels (marked n r)) → Labelled self (n + letters r) (labels (marked (n + letters r) s))
    → Labelled self n (labels (marked n r) ++ labels (marked (n + letters r) s))
marked_both n r s h g =
    self_append n (labels (marked n r)) (labels (marked (n + letters r) s)) h
    (subst (λ k. Labelled self (n + k) (labels (marked (n + letters r) s))) (sym (marked_letters n r)) g)

marked_labelled : (n : ℕ) (r : Opened) → Labelled self n (labels (marked n r))
unfolding marked labels
marked_labelled n (letter a) = λ i d. let z : i ≡ 0 = omega arith in rw z (omega arith)
marked_labelled n (joining r s) = marked_both n r s (marked_labelled n r) (marked_labelled (n + letters r) s)
marked_labelled n (alternation r s) = marked_both n r s (marked_labelled n r) (marked_labelled (n + letters r) s)
marked_labelled n (optional r) = marked_labelled n r
marked_labelled n (star r) = marked_labelled n r
marked_labelled n (plus r) = marked_labelled n r
marked_labelled n empty = λ i d. absurd (omega arith)
marked_labelled n never = λ i d. absurd (omega arith)

-- the walks through the positions are the words of letter numbers
pub walks : (n : ℕ) (r : Opened) → 1 ≤ n → Exact 0 self (numbered n r) (OpenedWords (marked n r))
walks n r l = rw (marked_numbered n r) at (opened_exact 0 self n (marked n r) l (marked_labelled n r))

map_self : (js : List ℕ) → map self js ≡ js
map_self [] = refl
map_self (j ∷ js) = ap (λ l. j ∷ l) (map_self js)

pub word_walks : (n : ℕ) (r : Opened) → 1 ≤ n → (js : List ℕ) → OpenedWords (marked n r) js → Walk (assembled 0 self (numbered n r)) 0 js
word_walks n r l js h = let x = (walks n r l js).1 h in subst (λ k. Walk (assembled 0 self (numbered n r)) 0 k) (sym (map_self x.0) ∙ x.2) x.1
