use Rattle.ir_plan.proofs.rows.row_at.Goals as goal

pub returns-in-Shortest : goal.returns-in-Shortest
returns-in-Shortest c = rw c.in-Shortest.is c.searched_row.ensures
