-- The matrix of costs, and the prices of lists of labels (document 01, "Extended states and decoding").
use Rattle.std.specs.Prelude.{ℕ, ◌+◌, ◌*◌, ◌≤◌, ◌≡◌, List, [], ◌∷◌, get_or}

-- its costs, one column after another; its column width; its column count
pub record Matrix : Type 0 where
  pub costs : List ℕ
  pub width : ℕ
  pub count : ℕ

abbrev pub matrix : (costs : List ℕ) (width count : ℕ) → Matrix
matrix costs width count = record { costs = costs; width = width; count = count }

-- the cost of a barred label, which no path may use (document 02, T-06)
abbrev pub BARRED : ℕ
BARRED = 4294967295

-- the cost of label x in column t
abbrev pub cost : Matrix → ℕ → ℕ → ℕ
cost M t x = get_or M.costs (t * M.width + x) 0

-- the list has the costs of column t, for the labels 0 to k
abbrev pub ColumnOf : (k : ℕ) → Matrix → (t : ℕ) → List ℕ → Type 0
ColumnOf k M t column = (x : ℕ) → x ≤ k → cost M t x ≡ get_or column x 0

-- the sum of a path's costs, where its first label is in column t
abbrev pub price_from : Matrix → ℕ → List ℕ → ℕ
price_from M t [] = 0
price_from M t (x ∷ p) = cost M t x + price_from M (t + 1) p

abbrev pub price : Matrix → List ℕ → ℕ
price M p = price_from M 0 p
