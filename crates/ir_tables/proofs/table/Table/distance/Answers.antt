use Rattle.std.proofs.Common.{◌≡◌, ◌<◌, List, length, arith, sym, ap, ◌∙◌, slice_index_or, []}
use Rattle.ir_model.specs.Table.{table_size}
use Rattle.ir_tables.specs.declared.table.Column.{Column}
use Rattle.ir_tables.proofs.Columns.{of_columns, size_of_columns, weight_row}
use Rattle.ir_tables.proofs.table.Table.distance.Goals as goal

pub index-requires : goal.index-requires
index-requires c =
    let cols : List Column = c.self.inside.columns.items in
    let column : Column = c.index-column.result.now in
    let size : table_size (of_columns cols) ≡ table_size c.args.self.now = ap table_size c.self.view_is in
    let lt : c.args.dest < length cols = omega (arith, size, size_of_columns cols, c.requires.dest) in
    let row : slice_index_or (of_columns cols).weights c.args.dest [] ≡ column.weights.items = weight_row cols c.args.dest column lt ∙ ap (λ k. k.weights.items) (sym c.index-column.ensures) in
    let long : length (slice_index_or (of_columns cols).weights c.args.dest []) ≡ table_size (of_columns cols) = c.self.invariant.weight_rows c.args.dest (omega (arith, size, c.requires.dest)) in
    omega (arith, long, ap length row, size, c.requires.node, column.weights.ok.0)
