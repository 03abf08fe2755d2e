-- Laws of the parts of a text; the end of a line, which is the first newline; and the lines from a place on.
use Rattle.std.specs.Prelude.{◌≡◌, List, [], ◌∷◌, ◌++◌, ℕ, suc, ◌+◌, ◌-◌, ◌<◌, ◌≤◌, length, get_or, take, drop}
use Rattle.std.proofs.Common.{sym, ap, ◌∙◌, append-nil, ⊎_elim, arith, take-append-drop, length-drop, take-suc, drop-drop, get_or-take, get_or-drop, length-take-le, eq-eqb, ne_eqb}
use Rattle.std.proofs.Math.Option.{some, none}
use Rattle.lists.proofs.EachLaws.{drop_here, drop_all}
use Rattle.lists.proofs.OrderLaws.{eq_or_ne}
use Rattle.text.specs.Places.{until}
use Rattle.text_lines.specs.Lines.{Free, both, lines_of}
use Rattle.text_lines.proofs.LinesLaws.{lines_end, lines_open, lines_none}
use Rattle.text_lines.specs.Places.{part, LineEnd}

module _ (text : List ℕ) (at i : ℕ) (from : at ≤ i) where
  back : at + (i - at) ≡ i
  back = omega arith

  pub part_length : i ≤ length text → length (part at i text) ≡ i - at
  part_length l = let n = length-drop at text in length-take-le (i - at) (drop at text) (omega arith)

  -- the rest after the part
  pub part_rest : drop at text ≡ part at i text ++ drop i text
  part_rest =
      sym (take-append-drop (i - at) (drop at text))
      ∙ ap (λ r. part at i text ++ r) (drop-drop (i - at) at text ∙ ap (λ k. drop k text) back)

  -- one byte more
  pub part_more : i < length text → part at (i + 1) text ≡ part at i text ++ (get_or text i 0 ∷ [])
  part_more l =
      let n = length-drop at text in
      let k : i + 1 - at ≡ suc (i - at) = omega arith in
      ap (λ j. take j (drop at text)) k
      ∙ take-suc (drop at text) (i - at) 0 (omega arith)
      ∙ ap (λ b. part at i text ++ (b ∷ [])) (get_or-drop at text (i - at) 0 ∙ ap (λ j. get_or text j 0) back)

-- a byte of the part
pub part_at : (text : List ℕ) (at e i : ℕ) → at ≤ i → i < e → get_or (part at e text) (i - at) 0 ≡ get_or text i 0
part_at text at e i f l =
    let k : at + (i - at) ≡ i = omega arith in
    get_or-take (e - at) (drop at text) (i - at) 0 (omega arith) ∙ get_or-drop at text (i - at) 0 ∙ ap (λ j. get_or text j 0) k

pub part_none : (text : List ℕ) (at e : ℕ) → e ≤ at → part at e text ≡ []
part_none text at e l = let k : e - at ≡ 0 = omega arith in ap (λ j. take j (drop at text)) k

-- the bytes before the first c
record Found (c : ℕ) (s : List ℕ) (n : ℕ) : Type 0 where
  within : n ≤ length s
  free : Free c (take n s)
  there : n < length s → get_or s n 0 ≡ c

until_found : (c : ℕ) (s : List ℕ) → Found c s (until c s)
unfolding until
until_found c [] = record { within = omega arith; free = tt; there = λ l. absurd (omega arith) }
until_found c (b ∷ s) = ⊎_elim here (λ n. further n (until_found c s)) (eq_or_ne b c)
  where
    here : b ≡ c → Found c (b ∷ s) (until c (b ∷ s))
    here e = rw (eq-eqb b c e) (record { within = omega arith; free = tt; there = λ l. e })

    further : (b ≡ c → ⊥) → Found c s (until c s) → Found c (b ∷ s) (until c (b ∷ s))
    further n f =
        let w = f.within in rw (ne_eqb b c n) (record { within = omega arith; free = (n, f.free); there = λ l. f.there (omega arith) })

pub line_found : (text : List ℕ) (at e : ℕ) → at ≤ length text → e ≡ at + until 10 (drop at text) → LineEnd text at e
line_found text at e l q =
    let f = until_found 10 (drop at text) in
    let w = f.within in
    let n = length-drop at text in
    let k : e - at ≡ until 10 (drop at text) = omega arith in
    record {
      from = omega arith;
      within = omega arith;
      line = rw k f.free;
      newline = λ m. ap (λ j. get_or text j 0) q ∙ sym (get_or-drop at text (until 10 (drop at text)) 0) ∙ f.there (omega arith);
    }

-- The lines from a place on, where the first of them ends at e: it is closed by its newline, or the text ends there.
module _ (text : List ℕ) (at e : ℕ) (h : LineEnd text at e) where
  pub lines_at : e < length text → lines_of (drop at text) ≡ both (some (part at e text)) (lines_of (drop (e + 1) text))
  lines_at l =
      ap lines_of
      (part_rest text at e h.from ∙ ap (λ r. part at e text ++ r) (drop_here 0 text e l ∙ ap (λ b. b ∷ drop (e + 1) text) (h.newline l)))
      ∙ lines_end (part at e text) (drop (e + 1) text) h.line

  pub line_unclosed : at < length text → length text ≤ e → lines_of (drop at text) ≡ none
  line_unclosed l g =
      let n = part_length text at e h.from h.within in
      ap lines_of (part_rest text at e h.from ∙ ap (λ r. part at e text ++ r) (drop_all text e g) ∙ append-nil (part at e text))
      ∙ lines_open (part at e text) (omega arith) h.line

-- no line is left at the end of the text
pub lines_past : (text : List ℕ) (at : ℕ) → length text ≤ at → lines_of (drop at text) ≡ some []
lines_past text at l = ap lines_of (drop_all text at l) ∙ lines_none
