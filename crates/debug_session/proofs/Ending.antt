-- How the command ends after a session.
use Rattle.std.proofs.Common.{◌≡◌, ◌∙◌, ℕ, false, subst}
use Rattle.flat_machine.specs.declared.config.Config.{Config}
use Rattle.machine_log.specs.Logs.{Log}
use Rattle.debug_session.specs.Sessions.{AskedSession, HasEnded, IsEnding, IsSession, LinkSpec, Outputs, session_result}
use Rattle.debug_session.specs.declared.session_end.SessionEnd.{SessionEnd}

-- If a session ends, and the command ends as this end says, the command's session has ended.
pub has_ended : {R W T E : Type 0} (links : LinkSpec R W) (d : AskedSession) (o : Outputs T E) (end : SessionEnd) (log : Log) (status : ℕ) →
    IsSession links d end log → IsEnding (session_result log.machine.config end log) o.trace o.err status → d.file.has_failed ≡ false →
    HasEnded links d o status
has_ended links d o end log status session ending read =
    let config : log.machine.config ≡ d.config = session.replay.run.config ∙ session.opens.config in
    record {
      end = end;
      log = log;
      session = session;
      fact = subst (λ (c : Config). IsEnding (session_result c end log) o.trace o.err status) config ending;
      read = read;
    }
