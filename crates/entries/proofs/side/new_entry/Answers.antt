-- `new_entry` meets its contract: each answer is the case of `new_entry` for the tests before it. The entries before keep their costs
-- low enough for the sum with the price to be a number of 64 bits.
use mathlib.Core.Path.{◌≡◌, sym, ◌∙◌}
use native.Mathlib.Omega.{arith}
use Rattle.theorems.specs.turns.Waiting.{page_cost}
use Rattle.theorems.specs.pages.Graph.{full}
use Rattle.galley.specs.Model.{model_of}
use Rattle.rules.specs.laws.Sane.{sound_sane}
use Rattle.rules.specs.laws.Walked.{waiting_few}
use Rattle.places.specs.Columns.{place_at}
use Rattle.candidates.specs.Better.{chosen}
use Rattle.places.specs.Entry.{least}
use Rattle.candidates.specs.Search.{most_from, priced, new_entry}
use Rattle.candidates.proofs.laws.Priced.{priced_within, priced_beyond}
use Rattle.candidates.specs.Read.{table_in}
use Rattle.passes.proofs.laws.Lending.{can_stand}
use Rattle.entries.specs.laws.Own.{end_stops, end_cost}
use Rattle.entries.specs.laws.NewEntry.{entry_origin, entry_forbidden, entry_proper, entry_told, cost_low}
use Rattle.entries.proofs.side.new_entry.Goals as goal
use Rattle.entries.proofs.side.new_entry.Goals.{After-choose, After-joined, After-price-price}

pub returns-then-is_origin : goal.returns-then-is_origin
returns-then-is_origin c =
    let a = c.args in
    let e = a.end in
    sym (entry_origin (model_of a.s.now a.task.galley) a.task.origin (table_in a.task.galley a.work.now) e.at.lines
    e.column e.side (sym c.is_origin.ensures ∙ c.if-is_origin.true))

pub returns-then-not-may_stop : goal.returns-then-not-may_stop
returns-then-not-may_stop c =
    let a = c.args in
    let e = a.end in
    sym (entry_forbidden (model_of a.s.now a.task.galley) a.task.origin (table_in a.task.galley a.work.now) e.at.lines
    e.column e.side (sym c.is_origin.ensures ∙ c.if-is_origin.false)
    (end_stops a.s.now a.task.galley e c.requires.ending.counts e.side ∙ sym (c.may_stop.ensures a.s.now a.task.galley a.end.at a.end.side (entry_proper c.requires) c.requires.ending.stop c.requires.turns)
    ∙ c.if-not-may_stop.true))

pub entry_of-held-requires : goal.entry_of-held-requires
entry_of-held-requires c =
    let e = c.args.end in
    rw c.place_of-place.ensures
    (can_stand c.requires.next.lent e.at.lines e.column e.side c.requires.ending.line c.requires.next.lent.column
    c.requires.above.side)

-- What is chosen is the better of what the place holds and of the lines above.
told : (c : After-choose)
    → c.choose.result
    ≡ chosen
    (table_in c.args.task.galley
    c.args.work.now
    c.args.end.at.lines
    c.args.end.column
    c.args.end.side)
    c.lines_above-lines.result
told c = c.choose.ensures ∙ rw (c.entry_of-held.ensures, c.place_of-place.ensures)

pub returns-in_err-best : goal.returns-in_err-best
unfolding priced
returns-in_err-best c =
    let a = c.args in
    let lines = c.lines_above-lines in
    rw c.from_residual.ensures
    (sym
    (entry_told c.requires lines.result lines.ensures _
    (sym c.in_err-best.was ∙ told (goal.at.returns-in_err-best c).After-choose) (sym c.is_origin.ensures ∙ c.if-is_origin.false)
    (end_stops a.s.now a.task.galley a.end c.requires.ending.counts a.end.side ∙ sym (c.may_stop.ensures a.s.now a.task.galley a.end.at a.end.side (entry_proper c.requires) c.requires.ending.stop c.requires.turns) ∙ c.if-not-may_stop.false)))

pub price-price-requires : goal.price-price-requires
price-price-requires c =
    let sound = c.requires.next.lent.sound in
    record {
      alphas = sound.spec_ranged.alphas;
      betas = sound.spec_ranged.betas;
      few = omega (arith, c.requires.ending.found, waiting_few sound c.args.end.at);
    }

-- The price of the page, by what the place says.
priced-at : (c : After-price-price)
    → c.price-price.result
    ≡ (let a = c.args in
    let v = place_at (model_of a.s.now a.task.galley) a.end.at.lines a.end.column in
    page_cost (model_of a.s.now a.task.galley) a.end.side (full (model_of a.s.now a.task.galley) v) v)
priced-at c =
    let a = c.args in
    c.price-price.ensures a.s.now a.end.at a.end.side (entry_proper c.requires) (sound_sane a.s.now a.task.galley c.requires.next.lent.sound) c.requires.above.full c.requires.turns c.requires.ending.found
    ∙ end_cost a.s.now a.task.galley a.end c.requires.ending.counts a.end.side

pub overflow_add-cost : goal.overflow_add-cost
overflow_add-cost c =
    let lines = c.lines_above-lines in
    let low = cost_low c.requires lines.result lines.ensures _ (told (goal.at.overflow_add-cost c).After-choose) _ _ c.in_ok-best.was in
    omega (arith, low, c.joined.ensures, priced-at (goal.at.overflow_add-cost c).After-price-price)

-- The entry has the price of the page added to what its start costs.
entered : (c : After-joined)
    → (let a = c.args in
    new_entry (model_of a.s.now a.task.galley) a.task.origin (table_in a.task.galley a.work.now) a.end.at.lines a.end.column a.end.side
    ≡ priced (most_from a.task.origin) c.joined.result (least c.in_ok-best.best.cost c.in_ok-best.best.start))
entered c =
    let a = c.args in
    let lines = c.lines_above-lines in
    let price : c.price-price.result ≡ (let v = place_at (model_of a.s.now a.task.galley) a.end.at.lines a.end.column in
    page_cost (model_of a.s.now a.task.galley) a.end.side (full (model_of a.s.now a.task.galley) v) v) =
    c.price-price.ensures a.s.now a.end.at a.end.side (entry_proper c.requires) (sound_sane a.s.now a.task.galley c.requires.next.lent.sound) c.requires.above.full c.requires.turns c.requires.ending.found
    ∙ end_cost a.s.now a.task.galley a.end c.requires.ending.counts a.end.side in
    let chose : c.choose.result ≡ chosen (table_in a.task.galley a.work.now a.end.at.lines a.end.column a.end.side) lines.result =
    c.choose.ensures ∙ rw (c.entry_of-held.ensures, c.place_of-place.ensures) in
    rw (c.joined.ensures, price)
    (entry_told c.requires lines.result lines.ensures _ (sym c.in_ok-best.was ∙ chose)
    (sym c.is_origin.ensures ∙ c.if-is_origin.false)
    (end_stops a.s.now a.task.galley a.end c.requires.ending.counts a.end.side ∙ sym (c.may_stop.ensures a.s.now a.task.galley a.end.at a.end.side (entry_proper c.requires) c.requires.ending.stop c.requires.turns) ∙ c.if-not-may_stop.false))

pub returns-then-task-cost : goal.returns-then-task-cost
returns-then-task-cost c = sym (entered (goal.at.returns-then-task-cost c).After-joined ∙ priced_beyond _ _ _ _ (omega (arith, c.if-task-cost.true)))

pub returns : goal.returns
returns c = sym (entered (goal.at.returns c).After-joined ∙ priced_within _ _ _ _ (omega (arith, c.if-task-cost.false)))
