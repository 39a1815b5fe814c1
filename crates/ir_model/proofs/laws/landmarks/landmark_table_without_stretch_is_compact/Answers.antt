use Rattle.ir_model.proofs.Landmarks.{no_stretch_is_compact, compact_is_no_stretch}
use Rattle.ir_model.proofs.Reach.{connected_distances}
use Rattle.ir_model.proofs.laws.landmarks.landmark_table_without_stretch_is_compact.Goals as goal

pub returns : goal.returns
returns c net ok connected landmarks are order table = (no_stretch_is_compact net ok (connected_distances net ok connected) landmarks are order table, compact_is_no_stretch net ok (connected_distances net ok connected) landmarks are order table)
