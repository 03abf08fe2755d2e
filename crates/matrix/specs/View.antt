-- The matrix that a view lends: its costs, its column width and its column count.
use Rattle.matrix.specs.Matrix.{Matrix, matrix}
use Rattle.matrix.specs.declared.Matrix.{Matrix as View}

abbrev pub value : View → Matrix
value v = matrix v.costs.now v.width v.count
