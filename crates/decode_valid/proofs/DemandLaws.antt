-- Laws: past the checks, `Answers` says what demands 1 and 3 ask, and nothing else. Past the checks with memory enough means that none of
-- refusals 12 to 15 applies.
use Rattle.std.specs.Prelude.{ℕ, ◌≤◌, ◌≡◌, ◌↔◌, List, length, drop, Ok}
use Rattle.std.proofs.Common.{sym, ap, ◌∙◌, inl, inr, arith, drop_at}
use Rattle.std.proofs.Math.Option.{Option, some, none}
use Rattle.lists.proofs.WrittenLaws.{written_none, length_written}
use Rattle.lists.specs.Memory.{written}
use Rattle.refusal.specs.Verdict.{first_refusal}
use Rattle.refusal.specs.Report.{Report}
use Rattle.answers.specs.Decoded.{read}
use Rattle.ctc.specs.Collapse.{collapse}
use Rattle.ctc.proofs.CollapseLaws.{collapse_shorter}
use Rattle.matrix.specs.Matrix.{Matrix, price}
use Rattle.outcome.specs.Outcome.{Rival, OutcomeOf}
use Rattle.outcome.specs.Plain.{PlainRival, NoRival}
use Rattle.outcome.proofs.OutcomeLaws.{outcome_of_same, plain_exactly}
use Rattle.decode_checks.specs.Checks.{Rooms, matrix_checks}
use Rattle.decode_checks.proofs.PassingLaws.{fits}
use Rattle.decode_valid.specs.Answers.{outcome_report, path_of, word_of, Answers}
use Rattle.decode_valid.specs.Lent.{Lent, rooms}
use Rattle.decode_valid.specs.Demand.{BestOrNone}
use Rattle.decode_valid.specs.Kept.{KeptFrom, Kept}

-- Past the checks every cost is usable or that of a barred label, and a column has one for each label 0 to k. So a list is what demand 3
-- calls a rival exactly if it is a `Rival`.
pub plain_is_rival :
    (k l : ℕ) (M : Matrix) (room : Rooms) → first_refusal (matrix_checks k l M room) ≡ Ok tt
    → (Word : List ℕ → Type 0) (p : List ℕ) → PlainRival Word k M p ↔ Rival Word M p
plain_is_rival k l M room passes Word p = let fit = fits k l M room passes in plain_exactly Word k M fit.wide p fit.pass

kept_same : (n : ℕ) {before after : List ℕ} → after ≡ before → KeptFrom n before after
kept_same n e = record { rest = ap (drop n) e; size = ap length e }

kept_written : {n : ℕ} (w : List ℕ) {before after : List ℕ} → after ≡ written w before → length w ≡ n → n ≤ length before → KeptFrom n before after
unfolding written
kept_written {n} w {before} {after} e h room =
    record {
      rest = ap (drop n) e ∙ drop_at w (drop (length w) before) n h ∙ ap (λ k. drop k before) h;
      size = ap length e ∙ length_written w before (omega arith);
    }

module _ {Word : List ℕ → Type 0} {spelt : List ℕ → List ℕ} {form : ℕ} {M : Matrix} {need : ℕ} {before after : Lent} {answer : Report} where
  module _ (k l : ℕ) (passes : first_refusal (matrix_checks k l M (rooms before)) ≡ Ok tt) (as_long : (w : List ℕ) → length (spelt w) ≡ length w) where
    demanded : Answers Word spelt form M need before after answer → BestOrNone Word spelt k form M before after answer × Kept need M before after answer
    demanded h =
        by h.outcome (outcome_of_same (price M) (λ p. (plain p).1) (λ p. (plain p).0) h.outcome h.is) h.answered h.path h.word
      where
        plain : (p : List ℕ) → PlainRival Word k M p ↔ Rival Word M p
        plain = plain_is_rival k l M (rooms before) passes Word

        work : KeptFrom need before.work after.work
        work = record { rest = h.work; size = h.size }

        by :
            (o : Option (List ℕ)) → OutcomeOf (PlainRival Word k M) (price M) o → answer ≡ outcome_report form M o
            → after.path ≡ written (path_of o) before.path → after.word ≡ written (word_of spelt o) before.word
            → BestOrNone Word spelt k form M before after answer × Kept need M before after answer
        by none is r u v =
            let path = u ∙ written_none before.path in
            let word = v ∙ written_none before.word in (
              inr (record { none = is; reported = r; path_memory = path; word_memory = word }),
              record { path = kept_same M.count path; word = kept_same answer.filled word; work = work },
            )
        by (some p) is r u v =
            let fit = fits k l M (rooms before) passes in
            let one = is.qualifies.one_each in
            let counted = r ∙ ap (λ n. read (price M p) n form) (sym (as_long (collapse p))) in
            let few : answer.filled ≤ M.count = rw r (omega (arith, collapse_shorter p)) in
            let room = fit.word in (
              inl
                  (record {
                    path = p;
                    rival = is.qualifies;
                    cheapest = is.least;
                    first = is.first;
                    reported = counted;
                    path_memory = u;
                    word_memory = v;
                  }),
              record {
                path = kept_written p u one fit.path;
                word = kept_written (spelt (collapse p)) v (sym (ap (λ a. a.filled) counted)) (omega arith);
                work = work;
              },
            )

    enough : BestOrNone Word spelt k form M before after answer → Kept need M before after answer → Answers Word spelt form M need before after answer
    enough (inl b) kept =
        let plain = plain_is_rival k l M (rooms before) passes Word in
        record {
          outcome = some b.path;
          is =
              outcome_of_same (price M) (λ p. (plain p).0) (λ p. (plain p).1) (some b.path)
              (record { qualifies = b.rival; least = b.cheapest; first = b.first });
          answered = b.reported ∙ ap (λ n. read (price M b.path) n form) (as_long (collapse b.path));
          path = b.path_memory;
          word = b.word_memory;
          work = kept.work.rest;
          size = kept.work.size;
        }
    enough (inr n) kept =
        record {
          outcome = none;
          is = λ p r. n.none p ((plain_is_rival k l M (rooms before) passes Word p).1 r);
          answered = n.reported;
          path = n.path_memory ∙ sym (written_none before.path);
          word = n.word_memory ∙ sym (written_none before.word);
          work = kept.work.rest;
          size = kept.work.size;
        }

    -- past the checks, the answer is what the demands ask and nothing else, if `spelt` keeps the length of a word
    pub answers_as_demanded :
        Answers Word spelt form M need before after answer ↔ (BestOrNone Word spelt k form M before after answer × Kept need M before after answer)
    answers_as_demanded = (demanded, λ d. enough d.0 d.1)

module _ {Word : List ℕ → Type 0} {spelt : List ℕ → List ℕ} {k form : ℕ} {M : Matrix} {before after : Lent} {answer : Report} where
  -- 'no reading' exactly when there is no rival
  pub none_exactly : BestOrNone Word spelt k form M before after answer → (answer.number ≡ 16) ↔ NoRival Word k M
  none_exactly (inl b) =
      let e : answer.number ≡ 0 = ap (λ a. a.number) b.reported in
      (λ h. absurd (omega arith), λ h. absurd (h b.path b.rival))
  none_exactly (inr n) = (λ h. n.none, λ h. ap (λ a. a.number) n.reported)

  -- where there is a rival, the number is 0
  pub rival_reads : BestOrNone Word spelt k form M before after answer → (q : List ℕ) → PlainRival Word k M q → answer.number ≡ 0
  rival_reads (inl b) q r = ap (λ a. a.number) b.reported
  rival_reads (inr n) q r = absurd (n.none q r)
