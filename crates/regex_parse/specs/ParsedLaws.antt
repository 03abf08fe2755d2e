-- What the parser answers for the whole text.
use Rattle.std.proofs.Math.Path.{◌≡◌, sym, ap}
use Rattle.std.proofs.Common.{◌∙◌, arith}
use Rattle.std.specs.Prelude.{List, ℕ, ◌≤◌, ◌<◌, length, drop}
use Rattle.lists.proofs.EachLaws.{drop_here, drop_all}
use Rattle.refusal.specs.declared.Refusal.{Refusal}
use Rattle.refusal.specs.declared.Refusal.TheVariants as refusal
use Rattle.regex_tree.specs.Tree.{Tree}
use Rattle.regex_tree.specs.Parsing.{Parsing, found, fault, then}
use Rattle.regex_tree.specs.Parse.{parse, m_alternation, whole, expression_of}
use Rattle.std.specs.Prelude.{Ok, Err}
use Rattle.regex_set.specs.Answers.{part_of}
use Rattle.regex_parse.specs.PartsLaws.{part_at, Found}
use Rattle.regex_parse.specs.Parsed.{parsed_of, parsed}

-- The whole text, from its alternation.
module _ (A text : List ℕ) where
  pub parsed_refused : (x : Refusal) → Err x ≡ part_at A text m_alternation 16 0 → Err x ≡ parsed A text
  unfolding parsed expression_of then
  parsed_refused x h = by (parse A m_alternation 16 text) h
    where
      by : (y : Parsing Tree) → Err x ≡ part_of A text y → Err x ≡ parsed_of A (then y whole)
      by (found t r) h = let z : ◌≡◌ {A = ℕ} 0 1 = cc in absurd (omega arith)
      by (fault n r) h = let q : x ≡ n = cc in ap Err q

  module _ (e n : ℕ) (f : Found A text m_alternation 16 0 e n) where
    unfolded : parsed A text ≡ parsed_of A (whole f.tree (drop e text))
    unfolding parsed expression_of then
    unfolded = ap (λ x. parsed_of A (then x whole)) f.reads

    pub parsed_stray : e < length text → Err refusal.MisplacedSign ≡ parsed A text
    unfolding whole
    parsed_stray l = sym (unfolded ∙ ap (λ s. parsed_of A (whole f.tree s)) (drop_here 0 text e l))

    pub parsed_letters : length text ≤ e → Ok n ≡ parsed A text
    unfolding whole
    parsed_letters l = ap Ok f.letters ∙ sym (unfolded ∙ ap (λ s. parsed_of A (whole f.tree s)) (drop_all text e l))
