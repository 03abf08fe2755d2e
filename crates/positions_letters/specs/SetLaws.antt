-- What the answers of `repetition` and `set_end` say of a repetition or a set that was found.
use Rattle.std.specs.Prelude.{◌≡◌, List, Bool, true, false, ℕ, ◌≤◌, length, drop, Some, None, Result, Ok, Err}
use Rattle.std.proofs.Common.{sym, ap, ◌∙◌, arith}
use Rattle.refusal.specs.declared.Refusal.{Refusal}
use Rattle.regex_tree.specs.Tree.{Set, Count, between, onward}
use Rattle.regex_tree.specs.Parsing.{Parsing, found, fault}
use Rattle.regex_tree.specs.Letters.{copies_of}
use Rattle.regex_tree.specs.Repetition.{repeats, repetition}
use Rattle.regex_repetition.specs.declared.Repeats.{Repeats}
use Rattle.text.proofs.TextLaws.{place_drop}
use Rattle.text.specs.Places.{place}
use Rattle.regex_bracket.specs.Answers.{is_found, end_of}
use Rattle.regex_repetition.specs.Answers.{several, repeats_of}
use Rattle.positions_letters.specs.Found.{rest_of, counted}
use Rattle.positions_letters.specs.FoundLaws.{counted_repeated, counted_plain, not_found}
use Rattle.positions_letters.specs.Copies.{copies_by}
use Rattle.positions_letters.specs.declared.Copies.{Copies}

abbrev pub copied : ℕ → ℕ → Bool → ℕ → Copies
copied n m o e = record { least = n; most = m; onward = o; end = e }

-- The copies at a place, by the repetition there.
module _ (text : List ℕ) (at : ℕ) where
  pub copies_one : at ≤ length text → repeats (drop at text) ≡ false → copied 1 1 false at ≡ copies_by text (counted (drop at text))
  copies_one l k = ap (copied 1 1 false) (sym (place_drop text at l)) ∙ ap (copies_by text) (sym (counted_plain (drop at text) k))

  module _ (k : repeats (drop at text) ≡ true) where
    is : copies_by text (repetition (drop at text)) ≡ copies_by text (counted (drop at text))
    is = ap (copies_by text) (sym (counted_repeated (drop at text) k))

    pub copies_between :
        (n m e : ℕ) → Ok (several n (Some m) e) ≡ repeats_of text (repetition (drop at text)) → copied n m false e ≡ copies_by text (counted (drop at text))
    copies_between n m e h = by (repetition (drop at text)) h ∙ is
      where
        by : (x : Parsing Count) → Ok (several n (Some m) e) ≡ repeats_of text x → copied n m false e ≡ copies_by text x
        by (found (between a b) r) h =
            let t : several n (Some m) e ≡ several a (Some b) (place text r) = cc in
            let p : n ≡ a = ap (λ (x : Repeats). x.least) t in
            let o : Some m ≡ Some b = ap (λ (x : Repeats). x.most) t in
            let q : m ≡ b = cc in
            let s : e ≡ place text r = ap (λ (x : Repeats). x.end) t in
            rw (p, q, s)
        by (found (onward a) r) h =
            let t : several n (Some m) e ≡ several a None (place text r) = cc in
            let o : Some m ≡ None = ap (λ (x : Repeats). x.most) t in
            let z : ◌≡◌ {A = ℕ} 0 1 = cc in
            absurd (omega arith)
        by (fault x r) h = let z : ◌≡◌ {A = ℕ} 0 1 = cc in absurd (omega arith)

    pub copies_onward :
        (n m e : ℕ) → Ok (several n None e) ≡ repeats_of text (repetition (drop at text)) → m ≡ copies_of (onward n)
        → copied n m true e ≡ copies_by text (counted (drop at text))
    copies_onward n m e h c = by (repetition (drop at text)) h ∙ is
      where
        by : (x : Parsing Count) → Ok (several n None e) ≡ repeats_of text x → copied n m true e ≡ copies_by text x
        by (found (between a b) r) h =
            let t : several n None e ≡ several a (Some b) (place text r) = cc in
            let o : None ≡ Some b = ap (λ (x : Repeats). x.most) t in
            let z : ◌≡◌ {A = ℕ} 0 1 = cc in
            absurd (omega arith)
        by (found (onward a) r) h =
            let t : several n None e ≡ several a None (place text r) = cc in
            let p : n ≡ a = ap (λ (x : Repeats). x.least) t in
            let s : e ≡ place text r = ap (λ (x : Repeats). x.end) t in
            rw (c, p, s)
        by (fault x r) h = let z : ◌≡◌ {A = ℕ} 0 1 = cc in absurd (omega arith)

    pub copies_refused :
        (x : Refusal) (y : Copies) → ◌≡◌ {A = Result Repeats Refusal} (Err x) (repeats_of text (repetition (drop at text)))
        → is_found (counted (drop at text)) ≡ true → y ≡ copies_by text (counted (drop at text))
    copies_refused x y h g = by (repetition (drop at text)) h (ap is_found (sym (counted_repeated (drop at text) k)) ∙ g)
      where
        by :
            (z : Parsing Count) → ◌≡◌ {A = Result Repeats Refusal} (Err x) (repeats_of text z) → is_found z ≡ true → y ≡ copies_by text (counted (drop at text))
        by (found (between a b) r) h g = let z : ◌≡◌ {A = ℕ} 0 1 = cc in absurd (omega arith)
        by (found (onward a) r) h g = let z : ◌≡◌ {A = ℕ} 0 1 = cc in absurd (omega arith)
        by (fault n r) h g = not_found g

-- The end of a set that was found.
pub end_is : (text : List ℕ) (e : ℕ) (x : Parsing Set) → Ok e ≡ end_of text x → e ≡ place text (rest_of x)
end_is text e (found a r) h = cc
end_is text e (fault n r) h = let z : ◌≡◌ {A = ℕ} 0 1 = cc in absurd (omega arith)

pub end_refused : {P : Type 0} (text : List ℕ) (n : Refusal) (x : Parsing Set) → Err n ≡ end_of text x → is_found x ≡ true → P
end_refused text n (found a r) h g = let z : ◌≡◌ {A = ℕ} 0 1 = cc in absurd (omega arith)
end_refused text n (fault m r) h g = not_found g
