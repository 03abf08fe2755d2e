-- The bytes of a list, test by test.
use Rattle.std.specs.Prelude.{ℕ, ◌<◌, ◌≤◌, ◌≡◌, true, false, not, ◌&&◌, ◌||◌, List, leb}
use Rattle.std.proofs.Common.{sym, ap, ◌∙◌, eq-eqb, ne_eqb, le-leb}
use Rattle.lists.specs.Lists.{in_range}
use Rattle.lists.proofs.RangeLaws.{range_below}
use Rattle.wordlist.specs.Words.{list_byte, unlabelled, strange}

module _ (b : ℕ) where
  pub byte_newline : b ≡ 10 → true ≡ list_byte b
  byte_newline e = sym (ap (λ t. t || in_range 32 126 b) (eq-eqb b 10 e))

  module _ (other : b ≡ 10 → ⊥) where
    past : list_byte b ≡ in_range 32 126 b
    past = ap (λ t. t || in_range 32 126 b) (ne_eqb b 10 other)

    pub byte_low : b < 32 → false ≡ list_byte b
    byte_low h = sym (past ∙ range_below 32 126 b h)

    pub byte_high : 32 ≤ b → leb b 126 ≡ list_byte b
    byte_high h = sym (past ∙ ap (λ t. t && leb b 126) (le-leb 32 b h))

  module _ (A : List ℕ) where
    pub newline_not_strange : b ≡ 10 → false ≡ strange A b
    newline_not_strange e = sym (ap (λ t. not t && unlabelled A b) (eq-eqb b 10 e))

    pub strange_unlabelled : (b ≡ 10 → ⊥) → unlabelled A b ≡ strange A b
    strange_unlabelled n = sym (ap (λ t. not t && unlabelled A b) (ne_eqb b 10 n))
