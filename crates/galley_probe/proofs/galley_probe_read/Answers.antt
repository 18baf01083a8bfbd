-- `galley_probe::galley_probe_read` meets its contract. Each arm writes what the definition says of that reading; the
-- counts fit, since a galley that reads is sound.
use mathlib.Core.Path.{sym, ◌∙◌}
use native.Mathlib.Omega.{arith}
use Rattle.galley.proofs.laws.Sound.{sound}
use Rattle.galley_probe.proofs.galley_probe_read.Goals as goal

pub overflow_cast-out : goal.overflow_cast-out
overflow_cast-out c = omega (arith, (sound _ _ (sym c.read_galley.ensures ∙ c.in-Ok.is)).few_lines)

pub overflow_cast-out-in-Ok : goal.overflow_cast-out-in-Ok
overflow_cast-out-in-Ok c = omega (arith, (sound _ _ (sym c.read_galley.ensures ∙ c.in-Ok.is)).figures.few)

pub overflow_cast-out-in-Ok-2 : goal.overflow_cast-out-in-Ok-2
overflow_cast-out-in-Ok-2 c = omega (arith, (sound _ _ (sym c.read_galley.ensures ∙ c.in-Ok.is)).tables.few)
