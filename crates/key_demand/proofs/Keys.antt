-- Board keys, all of it (specs/Keys.antt): which depots, a dealt key comes back, demand 3 for a key, and where all follow the rules.
use Rattle.key_demand.specs.Keys.{BoardKeys}
use Rattle.key_demand.proofs.Sets.{key-sets}
use Rattle.key_demand.proofs.Back.{key_back}
use Rattle.key_demand.proofs.Found.{key-found, key-met}
use Rattle.key_demand.proofs.Honest.{key-present, key-honest, key-run}

pub board-keys : BoardKeys
board-keys = record { sets = key-sets; back = key_back; present = key-present; found = key-found; met = key-met; honest = key-honest; run = key-run }
