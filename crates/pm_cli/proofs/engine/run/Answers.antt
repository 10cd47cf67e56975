use Rattle.std.proofs.Common.{◌∙◌, inl, refl, rules}
use Rattle.std.specs.Prelude.{Ok, Err}
use Rattle.pm_cli.proofs.EndingLemmas.{ends_told, told_no_read, told_no_write, told_memory}
use Rattle.pm_cli.proofs.HeadlineLemmas.{added_nothing, headline}
use Rattle.pm_cli.proofs.engine.run.Goals as goal

pub returns-in-Err-clause-ends : goal.returns-in-Err-clause-ends
returns-in-Err-clause-ends g c =
    (Err c.tell.result, c.status.ensures, ends_told _ _ _ _ c.in-Err.stop c.tell.result c.in-Err.ensures.ends c.tell.ensures.same, c.tell.ensures.told)

pub returns-in-Err-clause-nothing_added : goal.returns-in-Err-clause-nothing_added
returns-in-Err-clause-nothing_added g c _ no_write in_one =
    c.in-Err.ensures.nothing_added (told_no_write c.in-Err.stop c.tell.result c.tell.ensures.same (λ e. no_write (c.status.ensures ∙ e)))
    (λ memory. in_one (c.status.ensures ∙ told_memory c.in-Err.stop c.tell.result c.tell.ensures.same memory))

pub returns-in-Err-clause-calm_input : goal.returns-in-Err-clause-calm_input
returns-in-Err-clause-calm_input g c no_read =
    c.in-Err.ensures.calm_read (told_no_read c.in-Err.stop c.tell.result c.tell.ensures.same (λ e. no_read (c.status.ensures ∙ e)))

pub returns-in-Err-clause-calm_output : goal.returns-in-Err-clause-calm_output
returns-in-Err-clause-calm_output g c no_write =
    c.in-Err.ensures.calm_write (told_no_write c.in-Err.stop c.tell.result c.tell.ensures.same (λ e. no_write (c.status.ensures ∙ e)))

pub returns-in-Ok-clause-headline : goal.returns-in-Ok-clause-headline
returns-in-Ok-clause-headline g c =
    headline _ (Ok tt) c.each_class_has_laws.ensures refl c.in-Ok.ensures.ends (inl (added_nothing (g.E.Sink.holds c.args.err.now))) (λ e. cc) (λ e. cc)

pub returns-in-Err-clause-headline : goal.returns-in-Err-clause-headline
returns-in-Err-clause-headline g c =
    headline _ (Err c.tell.result) c.each_class_has_laws.ensures c.status.ensures (ends_told _ _ _ _ c.in-Err.stop c.tell.result c.in-Err.ensures.ends c.tell.ensures.same)
    c.tell.ensures.told (search rules) (search rules)
