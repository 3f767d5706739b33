use Rattle.std.proofs.Common.{OnOk, subst, sym}
use Rattle.std.specs.Io.KnownBytes.{Appends}
use Rattle.rcuo_script.specs.FaultLines.{fault_line}
use Rattle.rcuo_script.proofs.fault.write_fault.Goals as goal

pub returns-in-CannotRun : goal.returns-in-CannotRun
returns-in-CannotRun g c =
    subst (λ f. OnOk c.writeln-in-CannotRun.result (Appends (g.W.Write.contents c.args.writer.now) (g.W.Write.contents c.writeln-in-CannotRun.new.self) (fault_line f))) (sym c.in-CannotRun.is) c.writeln-in-CannotRun.ensures.bytes
