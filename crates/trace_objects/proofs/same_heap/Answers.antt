-- `same_heap` meets its contract: the entries of the map are the units'.
use Rattle.trace_objects.proofs.Units.{units-same}
use Rattle.trace_objects.proofs.same_heap.Goals as goal

pub returns : goal.returns
returns c = units-same _ c.told-before _ _ c.told-heap c.eq.ensures
