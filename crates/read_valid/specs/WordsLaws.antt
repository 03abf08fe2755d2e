-- Laws: from Decode's answer to Read's, which has the word as characters.
use Rattle.std.specs.Prelude.{ℕ, ◌+◌, ◌≤◌, ◌≡◌, List, length, take}
use Rattle.std.proofs.Common.{ap, ap₂, ◌∙◌, arith}
use Rattle.std.proofs.Math.Option.{Option, some, none}
use Rattle.std.proofs.lemmas.List.{length-map}
use Rattle.lists.proofs.WrittenLaws.{length_written, written_over, take_written}
use Rattle.lists.specs.Memory.{written}
use Rattle.refusal.specs.declared.Refusal.{Refusal}
use Rattle.refusal.proofs.NumberLaws.{number_between}
use Rattle.refusal.specs.Report.{Report, turned_away}
use Rattle.answers.specs.Decoded.{read}
use Rattle.ctc.specs.Collapse.{collapse}
use Rattle.ctc.proofs.CollapseLaws.{collapse_shorter}
use Rattle.alphabet.specs.Labels.{character, characters}
use Rattle.automaton.specs.Automaton.{Accepts}
use Rattle.automaton.specs.Form.{view}
use Rattle.matrix.specs.Matrix.{Matrix, price}
use Rattle.outcome.specs.Outcome.{Best, Outcome}
use Rattle.outcome.proofs.OutcomeLaws.{collapse_labels}
use Rattle.decode_valid.specs.Answers.{outcome_report, path_of, word_of, labels, DecodeAnswers}
use Rattle.decode_valid.specs.Lent.{Lent}
use Rattle.read_spelling.specs.InPlace.{Labels, Spelt}
use Rattle.read_valid.specs.Accepted.{ReadsAccepted}

-- the best path, from what Decode reports of it
pub record ReadPath (f : List ℕ) (M : Matrix) (before after : Lent) (p n : ℕ) : Type 0 where
  pub best : List ℕ
  pub is : Best (Accepts (view f)) M best
  pub price : p ≡ price M best
  pub length : n ≡ length (collapse best)
  pub path : after.path ≡ written best before.path
  pub word : after.word ≡ written (collapse best) before.word

module _ (f : List ℕ) (M : Matrix) (before after : Lent) where
  pub read_path : (p n : ℕ) → DecodeAnswers f M before after (read p n 0) → ReadPath f M before after p n
  read_path p n a = by a.outcome a.is a.answered a.path a.word
    where
      by :
          (o : Option (List ℕ)) → Outcome (Accepts (view f)) M o → read p n 0 ≡ outcome_report 0 M o
          → after.path ≡ written (path_of o) before.path → after.word ≡ written (word_of labels o) before.word → ReadPath f M before after p n
      by none h e u v = absurd (let q = ap (λ (r : Report). r.number) e in omega arith)
      by (some b) h e u v =
          record {
            best = b;
            is = h;
            price = ap (λ (r : Report). r.price) e;
            length = ap (λ (r : Report). r.filled) e;
            path = u;
            word = v;
          }

  module _ (A : List ℕ) where
    -- a refusal past the checks is 'no reading'
    pub read_none : (n : Refusal) → DecodeAnswers f M before after (turned_away n) → ReadsAccepted A f M before after (turned_away n)
    read_none n a = by a.outcome a.is a.answered a.path a.word
      where
        by :
            (o : Option (List ℕ)) → Outcome (Accepts (view f)) M o → turned_away n ≡ outcome_report 0 M o
            → after.path ≡ written (path_of o) before.path → after.word ≡ written (word_of labels o) before.word
            → ReadsAccepted A f M before after (turned_away n)
        by none h e u v = record { outcome = none; is = h; answered = e; path = u; word = v; work = a.work; size = a.size }
        by (some b) h e u v = absurd (let q = ap (λ (r : Report). r.number) e in let m = (number_between n).0 in omega arith)

    module _ (p n : ℕ) (a : DecodeAnswers f M before after (read p n 0)) where
      -- the labels of its word are labels of the alphabet
      pub read_labels : M.width ≡ length A + 1 → M.count ≤ length before.word → Labels A after.word n
      read_labels wide room =
          let r = read_path p n a in
          let l = r.length in
          let c = r.is.qualifies.path.one_each in
          let s = collapse_shorter r.best in
          let size = ap length r.word ∙ length_written (collapse r.best) before.word (omega arith) in
          record {
            room = omega arith;
            each =
                rw (ap (take n) r.word ∙ take_written (collapse r.best) before.word n l)
                (collapse_labels (length A) M wide r.best r.is.qualifies.path);
          }

      -- with the word written as characters, this is Read's answer
      pub read_characters :
          (word : List ℕ) → Spelt A n after.word word
          → ReadsAccepted A f M before (record { path = after.path; word = word; work = after.work }) (read p n (length f))
      read_characters word spelt =
          let r = read_path p n a in
          let w = collapse r.best in
          let same : take n after.word ≡ w = ap (take n) r.word ∙ take_written w before.word n r.length in
          let size : length (characters A w) ≡ length w = length-map w (character A) in
          record {
            outcome = some r.best;
            is = r.is;
            answered = ap₂ (λ p n. read p n (length f)) r.price r.length;
            path = r.path;
            word = spelt ∙ ap₂ (λ u m. written (characters A u) m) same r.word ∙ written_over (characters A w) w before.word size;
            work = a.work;
            size = a.size;
          }
