-- The loop of `build` over the bytes of a list: before the first byte, one byte more, after the last.
use Rattle.std.specs.Prelude.{ℕ, ◌+◌, ◌<◌, ◌≤◌, ◌≡◌, refl, false, length, get_or}
use Rattle.std.proofs.Common.{sym, subst, ◌∙◌, ⊎_elim, arith, ne_eqb}
use mathlib.Core.List.{List, [], ◌∷◌, ◌++◌, flat_map}
use Rattle.std.proofs.lemmas.Bool.{eqb-false}
use Rattle.lists.specs.Lists.{any}
use Rattle.lists.proofs.AmongLaws.{among_at, among_any}
use Rattle.lists.proofs.OrderLaws.{not_both, never_true, eq_or_ne}
use Rattle.alphabet.specs.Labels.{labels_of_character}
use Rattle.text_lines.proofs.LinesLoops.{read_none, read_line, read_byte, read_all}
use Rattle.wordlist.specs.Words.{words, unlabelled, strange}
use Rattle.wordlist.proofs.WordsLaws.{fault_exactly, foreign_bytes}
use Rattle.wordlist.specs.PrefixTree.{prefixes_from, once}
use Rattle.wordlist_build.specs.declared.Trie.{Trie}
use Rattle.wordlist_build.specs.Arrays.{Roomy}
use Rattle.wordlist_build.specs.HeadsLaws.{head_nothing}
use Rattle.wordlist_build.specs.State.{State, ReadsByte, Readable, Reached, Builds}

pub reached_none : (A s : List ℕ) (t : Trie) → Roomy t → t.letters ≡ 0 → t.at ≡ 0 → Reached A s 0 t
unfolding once flat_map prefixes_from
reached_none A s t r e p =
    record {
      inside = omega arith;
      roomy = r;
      lines = [];
      begun = [];
      read = read_none s;
      state = record {
        within = λ l. record { holds = record { count = e; at = λ i h. absurd (omega arith) }; place = p ∙ sym (head_nothing []); rooted = λ z m. absurd m; here = λ z. refl };
        over = λ l. absurd (omega arith);
      };
    }

-- each byte of a list that passed is a newline, or has a label
pub byte_known : (A s : List ℕ) (i : ℕ) → Readable A s → i < length s → strange A (get_or s i 0) ≡ false
byte_known A s i r l =
    never_true (strange A (get_or s i 0)) (λ e.
    not_both (any (strange A) s) (among_any (strange A) (get_or s i 0) s (among_at 0 s i l) e)
    (sym (foreign_bytes A s ((fault_exactly s).0 r.no_fault).0) ∙ r.no_foreign))

pub byte_labelled : (A : List ℕ) (b : ℕ) → strange A b ≡ false → (b ≡ 10 → ⊥) → 1 ≤ length (labels_of_character A b)
byte_labelled A b e n =
    let f : unlabelled A b ≡ false = rw (ne_eqb b 10 n) at e in
    let z = eqb-false (length (labels_of_character A b)) 0 f in
    omega arith

pub reached_more : (A s : List ℕ) (i : ℕ) (t r : Trie) → i < length s → Reached A s i t → Roomy r → ReadsByte A (get_or s i 0) t r → Reached A s (i + 1) r
reached_more A s i t r l h roomy reads =
    ⊎_elim
    (λ e.
    record {
      inside = omega arith;
      roomy = roomy;
      lines = h.lines ++ (h.begun ∷ []);
      begun = [];
      read = read_line s i h.lines h.begun l e h.read;
      state = reads.newline e A h.lines h.begun h.state;
    })
    (λ d.
    record {
      inside = omega arith;
      roomy = roomy;
      lines = h.lines;
      begun = h.begun ++ (get_or s i 0 ∷ []);
      read = read_byte s i h.lines h.begun l d h.read;
      state = reads.character d h.lines h.begun h.state;
    })
    (eq_or_ne (get_or s i 0) 10)

pub reached_all : (A s : List ℕ) (i : ℕ) (t : Trie) → length s ≤ i → Readable A s → Reached A s i t → Builds A s t
reached_all A s i t l r h =
    let q = read_all s i h.lines h.begun (words s) l h.read ((fault_exactly s).0 r.no_fault).0 in
    record { roomy = h.roomy; state = subst (λ u. State A (words s) u t) q.0 (subst (λ ws. State A ws h.begun t) q.1 h.state) }
