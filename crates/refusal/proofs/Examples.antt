-- The numbers of the refusals, the order of checks, and what is reported, computed.
use Rattle.std.specs.Prelude.{ℕ, ◌-◌, min, ◌≡◌, refl, true, false, List, [], ◌∷◌, ◌++◌, map, get_or, Ok, Err}
use Rattle.lists.specs.Lists.{numbers}
use Rattle.refusal.specs.declared.Refusal.{Refusal}
use Rattle.refusal.specs.declared.Refusal.TheVariants.{Alphabet, TextLength, TextByte, MisplacedSign, Depth, Count, Bracket, Foreign, Letters, FormMemory, BadForm, Matrix, Cost, OutputMemory, Work, NoReading, Label, Sheet, ClassName, WordList}
use Rattle.refusal.specs.Number.{number_of}
use Rattle.refusal.specs.Verdict.{Verdict, passed, refused, Check, check, unless, if_passed, first_refusal}
use Rattle.refusal.specs.Checks.{Checks}
use Rattle.refusal.specs.Fills.{reported, report, filling}

-- the refusals in the order of documents 01 and 02
abbrev refusals : List Refusal
refusals =
    Alphabet ∷ TextLength ∷ TextByte ∷ MisplacedSign ∷ Depth ∷ Count ∷ Bracket ∷ Foreign ∷ Letters ∷ FormMemory ∷ BadForm ∷ Matrix ∷ Cost ∷
    OutputMemory ∷ Work ∷ NoReading ∷ Label ∷ Sheet ∷ ClassName ∷ WordList ∷ []

-- no refusal has the number 20 yet
numbered : map number_of refusals ≡ numbers 1 19 ++ (21 ∷ [])
unfolding numbers
numbered = refl

-- no refusal is missing above
listed : (n : Refusal) → get_or refusals (min (number_of n) 20 - 1) Alphabet ≡ n
listed Alphabet = refl
listed TextLength = refl
listed TextByte = refl
listed MisplacedSign = refl
listed Depth = refl
listed Count = refl
listed Bracket = refl
listed Foreign = refl
listed Letters = refl
listed FormMemory = refl
listed BadForm = refl
listed Matrix = refl
listed Cost = refl
listed OutputMemory = refl
listed Work = refl
listed NoReading = refl
listed Label = refl
listed Sheet = refl
listed ClassName = refl
listed WordList = refl

-- two checks that hold: the first in the list decides, though its number is higher
abbrev two : List Check
two = check false Label ∷ check true Work ∷ check true Cost ∷ []

abbrev none : List Check
none = check false Label ∷ check false Work ∷ []

abbrev some : List ℕ
some = 5 ∷ 6 ∷ []

abbrev away : Verdict (List ℕ)
away = refused Work

record Examples : Type 0 where
  first : unless two some ≡ refused Work
  first_alone : first_refusal two ≡ Err Work
  all_pass : unless none some ≡ passed some
  all_pass_alone : first_refusal none ≡ Ok tt
  goes_on : if_passed (passed some) (λ s. away) ≡ away
  stays_refused : if_passed away (λ s. passed s) ≡ away
  -- number, price, length of what was filled, length of the form
  filled : reported (Ok 2) ≡ record { number = 0; price = 0; filled = 2; form = 0 }
  turned_away : reported (Err Work) ≡ record { number = 15; price = 0; filled = 0; form = 0 }
  verdict_filled : report (passed some) ≡ record { number = 0; price = 0; filled = 2; form = 0 }
  verdict_refused : report away ≡ record { number = 15; price = 0; filled = 0; form = 0 }
  written : filling (passed some) ≡ some
  nothing_written : filling away ≡ []

examples : Examples
unfolding unless first_refusal if_passed
examples = record {
  first = refl;
  first_alone = refl;
  all_pass = refl;
  all_pass_alone = refl;
  goes_on = refl;
  stays_refused = refl;
  filled = refl;
  turned_away = refl;
  verdict_filled = refl;
  verdict_refused = refl;
  written = refl;
  nothing_written = refl;
}

-- a call that makes its checks first, and whose answer is a number: a refusal leaves memory as it was, and what passes gets its own promise
abbrev Passes : (before after : List ℕ) (answer : ℕ) → Type 0
Passes before after answer = after ≡ some

checked :
    ((before after : List ℕ) (answer : ℕ) → Checks number_of (Err Work) Passes before after answer → (answer ≡ 15) × (after ≡ before))
    × ((before after : List ℕ) (answer : ℕ) → Checks number_of (Ok tt) Passes before after answer → after ≡ some)
checked = (λ before after answer h. h, λ before after answer h. h)
