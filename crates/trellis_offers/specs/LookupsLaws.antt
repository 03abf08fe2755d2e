-- Laws: what is looked up in a form says which letters may follow which.
use Rattle.std.specs.Prelude.{ℕ, ◌<◌, ◌≡◌, true, Bool, List, length, take}
use Rattle.std.proofs.Common.{sym, subst, ◌∙◌, arith, length-take-le, get_or-take}
use Rattle.automaton.specs.Form.{follow_of}
use Rattle.automaton.specs.Valid.{Valid}
use Rattle.automaton.proofs.ValidLaws.{first_letter}
use Rattle.form_starts.specs.Starts.{ArcStarts}
use Rattle.form_arcs.specs.Equal.{EqualArcs}
use Rattle.form_arcs.specs.EqualLaws.{equal_letters}
use Rattle.form_arcs.specs.Firsts.{Firsts}
use Rattle.trellis_offers.specs.Offers.{Follows, SameFollow}

-- letters that share their arcs with the letter before them
pub equal_follow : {f s : List ℕ} {same : List Bool} → Valid f → ArcStarts f s → EqualArcs f s same → SameFollow f same
equal_follow {f} {s} {same} valid starts equal = record { size = equal.size; is = equal_letters f s same valid starts equal }

-- the first n of the list are the letters that may be first
pub firsts_follow : {f list : List ℕ} {n : ℕ} → Valid f → Firsts f list n → Follows f 0 (take n list)
firsts_follow {f} {list} {n} valid firsts =
    record {
      is = λ k h. let l = long in let i : k < n = omega arith in subst (λ j. follow_of f 0 j ≡ true) (sym (get_or-take n list k 0 i)) (firsts.is k i);
      all = λ j e.
          let b = (first_letter f j e).1 in
          let k = firsts.all j (omega arith) e in
          let i = k.1 in
          let l = long in
          ∣ (k.0, omega arith, get_or-take n list k.0 0 i ∙ k.2) ∣₁;
    }
  where
    long : length (take n list) ≡ n
    long = let few = valid.head.letters_high in let z = firsts.size in let m = firsts.few in length-take-le n list (omega arith)
