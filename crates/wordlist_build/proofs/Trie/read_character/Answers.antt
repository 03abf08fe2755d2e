-- `wordlist_build::Trie::read_character` meets its contract: too many letters before, a letter that is there, too many now, or new letters.
use Rattle.std.proofs.Common.{◌+◌, ◌≤◌, ◌<◌, ◌++◌, ◌∷◌, [], length, refl, sym, subst, arith, rules}
use Rattle.lists.proofs.LowestLaws.{lowest_most}
use Rattle.alphabet.specs.Labels.{labels_of_character}
use Rattle.alphabet.proofs.LabelsLaws.{labels_few}
use Rattle.wordlist_build.specs.Arrays.{Roomy, leads_on, pushes}
use Rattle.wordlist_build.specs.ArraysLaws.{roomy_pushes, roomy_moved}
use Rattle.wordlist_build.specs.State.{State}
use Rattle.wordlist_build.specs.StateLaws.{character_over, character_known, character_full, character_new}
use Rattle.wordlist_build.proofs.Trie.read_character.Goals as goal

pub returns-then-self-gt127-clause-reads : goal.returns-then-self-gt127-clause-reads
returns-then-self-gt127-clause-reads c = λ ws u s. character_over c.args.alphabet.now ws u c.args.character c.args.self.now c.if-self-gt127.true s

pub overflow_cast-self : goal.overflow_cast-self
overflow_cast-self c =
    let t = c.args.self.now in
    let m = lowest_most (leads_on t c.args.character) t.letters in
    let e = c.in-Some.ensures.0 in
    let h = c.if-self-gt127.false in
    omega arith

pub returns-in-Some-clause-reads : goal.returns-in-Some-clause-reads
returns-in-Some-clause-reads c =
    λ ws u s.
    character_known c.args.alphabet.now ws u c.args.character c.args.self.now c.in-Some.letter c.if-self-gt127.false c.in-Some.ensures.0
    c.in-Some.ensures.1 s

pub overflow_add-self : goal.overflow_add-self
overflow_add-self c =
    let k = labels_few c.args.alphabet.now c.args.character in
    let n = c.count_labels.ensures in
    let few = c.requires.0 in
    let h = c.if-self-gt127.false in
    omega arith

pub returns-then-self-count_labels-gt127-clause-reads : goal.returns-then-self-count_labels-gt127-clause-reads
returns-then-self-count_labels-gt127-clause-reads c =
    let a = c.args in
    let many : 127 < a.self.now.letters + length (labels_of_character a.alphabet.now a.character) = (let n = c.count_labels.ensures in omega arith) in
    λ ws u s.
    character_full a.alphabet.now ws u a.character a.self.now c.if-self-gt127.false (sym c.in_default.ensures) c.requires.1 s _ many refl

pub push_all-requires : goal.push_all-requires
push_all-requires c = let n = c.count_labels.ensures in (c.requires.0, omega arith)

pub returns-clause-reads : goal.returns-clause-reads
returns-clause-reads c =
    let A = c.args.alphabet.now in
    let b = c.args.character in
    let t = c.args.self.now in
    let roomy : Roomy t = search rules in
    let fits : t.letters + length (labels_of_character A b) ≤ 127 = (let n = c.count_labels.ensures in omega arith) in
    λ ws u s.
    subst (State A ws (u ++ (b ∷ []))) (sym c.push_all.ensures)
    (character_new A ws u b t c.if-self-gt127.false (sym c.in_default.ensures) c.requires.1 s roomy fits)

pub returns-clause-roomy : goal.returns-clause-roomy
returns-clause-roomy c =
    let t = c.args.self.now in
    let h = t.letters + 1 in
    let xs = labels_of_character c.args.alphabet.now c.args.character in
    let roomy : Roomy t = search rules in
    subst Roomy (sym c.push_all.ensures) (roomy_moved (pushes t c.args.character h xs) h (roomy_pushes t c.args.character h xs roomy))
