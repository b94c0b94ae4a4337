-- Door timings, all of it (specs/Signed.antt).
use Rattle.signed_demand.specs.Signed.{DoorTimings}
use Rattle.signed_demand.proofs.Found.{signed-found, signed-met}
use Rattle.signed_demand.proofs.Honest.{signed-honest, signed-run}

pub door-timings : DoorTimings
door-timings = record { found = signed-found; met = signed-met; honest = signed-honest; run = signed-run }
