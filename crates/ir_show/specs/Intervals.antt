-- Intervals as the program has them.
use Rattle.ir_model.specs.Interval.{PortInterval}
use Rattle.ir_show.specs.declared.interval.Interval.{Interval}

abbrev pub as_interval : Interval → PortInterval
as_interval it = record { start = it.start; end = it.end; port = it.port }
