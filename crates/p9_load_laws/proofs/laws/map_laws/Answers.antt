use Rattle.p9_load_laws.proofs.Mapping.{schedule_maps, schedule_leaves_room}
use Rattle.p9_load_laws.proofs.laws.map_laws.Goals as goal

pub returns-clause-maps : goal.returns-clause-maps
returns-clause-maps c = schedule_maps

pub returns-clause-room : goal.returns-clause-room
returns-clause-room c = schedule_leaves_room
