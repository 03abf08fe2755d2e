-- A refusal is at the leftmost fault (document 01, "What is turned away": "among 4 to 8 the one leftmost in the text"; T-01 adds 19).
-- For the reader: nothing uses it.
use Rattle.std.specs.Prelude.{◌≡◌, refl, List, [], ◌∷◌, ℕ, ◌≤◌, length}
use Rattle.std.proofs.Common.{arith}
use Rattle.refusal.specs.declared.Refusal.{Refusal}
use Rattle.regex_tree.specs.Tree.{Tree}
use Rattle.regex_tree.specs.Parsing.{fault}
use Rattle.regex_tree.specs.Parse.{m_alternation, parse, whole, expression_of}
use Rattle.regex_tree.proofs.SaysLaws.{Says, of_fault, then_says}
use Rattle.regex_tree.proofs.FrontLaws.{Front, Stop, stop_beyond}
use Rattle.regex_tree.proofs.Sound.{parse_sound}
use Rattle.regex_tree.proofs.Exact.{exact}
use Rattle.regex_tree.proofs.PlacesLaws.{refused_at}
use Rattle.regex_tree.specs.Places.{Leftmost}

pub leftmost : (A : List ℕ) → 1 ≤ length A → (s : List ℕ) (n : Refusal) (r : List ℕ) → expression_of A s ≡ fault n r → Leftmost A s n r
unfolding expression_of whole
leftmost A l s n r e =
    let stop = of_fault (λ (t : Tree) (r : List ℕ). Unit {0}) (Stop A m_alternation 16 s) (expression_of A s) n r (expression_stops) e in
    record {
      place = refused_at A s n r e;
      none = λ t h. let k = (exact A s t).1 h in let z : ◌≡◌ {A = ℕ} 0 1 = cc in omega arith;
      front = stop.front;
      splits = stop.splits;
      begins = stop.begins l;
    }
  where
    beyond : (t : Tree) (r : List ℕ) → Front A m_alternation 16 s t r → Says (λ t r. Unit {0}) (Stop A m_alternation 16 s) (whole t r)
    beyond t [] f = tt
    beyond t (b ∷ r) f = stop_beyond A 16 s t (b ∷ r) _ (b ∷ r) m_alternation f refl

    expression_stops : Says (λ t r. Unit {0}) (Stop A m_alternation 16 s) (expression_of A s)
    expression_stops =
        then_says (Front A m_alternation 16 s) _ (Stop A m_alternation 16 s) _ (parse A m_alternation 16 s) whole
        (parse_sound A m_alternation 16 s) (λ n r h. h) beyond
