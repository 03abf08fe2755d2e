-- Where each label in front was replaced by its character, the word is spelt.
use Rattle.std.specs.Prelude.{ℕ, ◌≤◌, ◌≡◌, List, ◌++◌, length, get_or, take, drop}
use Rattle.std.proofs.Common.{sym, ap, ◌∙◌, arith, length-take-le}
use Rattle.std.proofs.lemmas.List.{length-map, get_or-map, ext_get_or}
use Rattle.lists.specs.Memory.{written}
use Rattle.lists.proofs.UptoLoops.{Upto}
use Rattle.alphabet.specs.Labels.{character, characters}
use Rattle.read_spelling.specs.InPlace.{Spelt}

pub spelt :
    (A word front : List ℕ) (n i : ℕ) → n ≤ length word → length front ≤ i → Upto 0 (λ k c. c ≡ character A (get_or (take n word) k 0)) (take n word) i front
    → Spelt A n word (front ++ drop n word)
unfolding written
spelt A word front n i room end u =
    let size : length (take n word) ≡ n = length-take-le n word room in
    let mapped = length-map (take n word) (character A) in
    let s = u.size in
    let same : front ≡ characters A (take n word) =
    ext_get_or 0 front (characters A (take n word)) (omega arith)
    (λ k h. u.done k (omega arith) ∙ sym (get_or-map (character A) (take n word) k 0 0 (omega arith))) in
    ap (λ w. w ++ drop n word) same ∙ ap (λ k. characters A (take n word) ++ drop k word) (let e : n ≡ length (characters A (take n word)) = omega arith in e)
