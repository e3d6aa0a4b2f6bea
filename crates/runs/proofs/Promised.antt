-- The promise over whole runs, put together from its parts.
use Rattle.std.proofs.Common.{Bool}
use Rattle.model.specs.Rankings.{Lawful}
use Rattle.model.specs.declared.job.Job.{Job}
use Rattle.runs.specs.Promise.{Promise}
use Rattle.runs.proofs.Deadlines.{in_time}
use Rattle.runs.proofs.Early.{early, none_due}
use Rattle.runs.proofs.Ledger.{truly}
use Rattle.runs.proofs.Noted.{figured}
use Rattle.runs.proofs.Regular.{regularly}
use Rattle.runs.proofs.Tallies.{tallied}

pub promise : (ahead : Job → Job → Bool) → Lawful ahead → Promise ahead
promise ahead lawful ls m start h s sound ran = record {
  regularly = regularly ahead lawful ls m start sound h s ran;
  truly = truly ahead lawful ls m start sound h s ran;
  in_time = λ ok. in_time ahead lawful ls m start sound (early ahead lawful ls m sound ok start) (none_due ahead lawful ls m sound ok start) h s ran;
  tallied = tallied ahead lawful ls m start sound h s ran;
  figured = figured ahead lawful ls m start sound h s ran;
}
