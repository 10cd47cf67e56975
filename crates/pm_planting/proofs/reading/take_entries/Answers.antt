use Rattle.std.proofs.Common.{◌≡◌, ℕ, ◌-◌, take, [], reverse, append-nil, ap, sym, ◌∙◌}
use Rattle.pm_planting.proofs.ReadingSteps.{taking_none, taking_more, taken_close, taken_all}
use Rattle.pm_planting.proofs.reading.take_entries.Goals as goal

pub entries-init : goal.entries-init
entries-init c = taking_none c.args.entries.now.items c.clear.new.self.items c.clear.ensures.items

pub returns-then-entry-eq-CLOSE-clause-prefix : goal.returns-then-entry-eq-CLOSE-clause-prefix
returns-then-entry-eq-CLOSE-clause-prefix c =
    (taken_close c.args.entries.now.items c.entries.entries.items c.pop.new.self.items c.entries.prefix.items c.in-Some.entry c.entries.invariant c.in-Some.ensures.items c.if-entry-eq-CLOSE.true).prefix_is

pub returns-then-entry-eq-CLOSE-clause-rest : goal.returns-then-entry-eq-CLOSE-clause-rest
returns-then-entry-eq-CLOSE-clause-rest c =
    (taken_close c.args.entries.now.items c.entries.entries.items c.pop.new.self.items c.entries.prefix.items c.in-Some.entry c.entries.invariant c.in-Some.ensures.items c.if-entry-eq-CLOSE.true).rest_is

pub entries-preserved : goal.entries-preserved
entries-preserved c =
    taking_more c.args.entries.now.items c.entries.entries.items c.pop.new.self.items c.entries.prefix.items c.push.new.self.items c.in-Some.entry c.entries.invariant c.in-Some.ensures.items c.if-entry-eq-CLOSE.false
    c.in_ok-push.ensures.items

pub returns-clause-prefix : goal.returns-clause-prefix
returns-clause-prefix c =
    let none : c.pop.new.self.items ≡ [] = c.in_default.ensures.rest ∙ ap (λ (n : ℕ). take (n - 1) c.entries.entries.items) c.in_default.ensures.cases.0 in
    let same : c.entries.entries.items ≡ c.pop.new.self.items = c.in_default.ensures.items ∙ append-nil c.pop.new.self.items in
    (taken_all c.args.entries.now.items c.entries.entries.items c.entries.prefix.items c.entries.invariant (same ∙ none)).prefix_is

pub returns-clause-rest : goal.returns-clause-rest
returns-clause-rest c =
    let none : c.pop.new.self.items ≡ [] = c.in_default.ensures.rest ∙ ap (λ (n : ℕ). take (n - 1) c.entries.entries.items) c.in_default.ensures.cases.0 in
    let same : c.entries.entries.items ≡ c.pop.new.self.items = c.in_default.ensures.items ∙ append-nil c.pop.new.self.items in
    ap reverse (sym same) ∙ (taken_all c.args.entries.now.items c.entries.entries.items c.entries.prefix.items c.entries.invariant (same ∙ none)).rest_is
