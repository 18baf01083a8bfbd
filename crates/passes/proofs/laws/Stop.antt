-- Where a sweep stops: at the first line that is found too far from the last one of the pass, or where no line is left to take.
use Rattle.std.specs.Prelude.{ℕ, ◌+◌, ◌<◌, ◌≡◌, true, List}
use Rattle.std.proofs.Common.{le_refl, arith}
use Rattle.galley.specs.declared.Galley.{Galley}
use Rattle.window.specs.Slide.{too_tall, Reachable}
use Rattle.window.specs.laws.Slide.{tall_on}
use Rattle.passes.specs.declared.pass.Pass.{Pass}
use Rattle.passes.specs.Sweep.{pass_load, sweep_end, Stoppable, Stopped}
use Rattle.passes.proofs.laws.Pass.{end_from_lem, end_inner}

module _ {g : Galley} {sums : List ℕ} {pass : Pass} (asked : Stoppable g sums pass) where
  -- A line after the last of the pass.
  module _ {i : ℕ} (after : pass.reach.last < i) (next : i < sweep_end g pass) where
    -- A page to it can be measured,
    pub stop_reaches : Reachable sums 0 (pass_load g pass).tight (g.spec.htmax + 1) pass.reach.last i
    stop_reaches =
        let line = (end_inner g pass i next).0 in
        let all = asked.reaches in
        record {
          start = omega arith;
          either = all.either;
          room = omega (arith, all.room);
          small = λ k l. all.small k (omega arith);
          added = all.added;
          limited = all.limited;
        }

    -- and where it is too tall the sweep stops.
    pub stop_found : too_tall sums (pass_load g pass) pass.reach.last i ≡ true → Stopped g sums pass i
    stop_found tall =
        record {
          from = omega (arith, asked.order);
          within = omega arith;
          after = λ l. after;
          tall = λ st rows e l m. tall_on rows (pass_load g pass) pass.reach.last i after (end_inner g pass i next).0 tall e l;
        }

  -- Where there is none it goes on to the end.
  pub stop_none : Stopped g sums pass (sweep_end g pass)
  stop_none =
      record {
        from = end_from_lem g pass pass.reach.first (omega (arith, asked.order, asked.line));
        within = le_refl _;
        after = λ l. absurd (omega arith);
        tall = λ st rows e l m. absurd (omega arith);
      }
