use Rattle.std.proofs.Common.{ℕ, lit<, List, [], ◌∷◌, length, sym, subst}
use Rattle.std.specs.Borrow.{Bor}
use Rattle.std.proofs.lemmas.List.{map-append}
use Rattle.std.proofs.lemmas.Iterator.Consumers.{YieldsList-at, YieldsList-turn, YieldsList-end}
use Rattle.std.proofs.lemmas.Iterator.Splits.{YieldsList-from_str_split}
use Rattle.pm_cli.specs.ProfileWord.{comma}
use Rattle.pm_cli.proofs.PairTexts.{SpellPairs, no_text, one_more_text, all_pairs, no_pairs}
use Rattle.pm_cli.proofs.profile_word.read_pairs.Goals as goal

pub loop-text-init : goal.loop-text-init
loop-text-init c = subst (SpellPairs []) (sym c.new-pairs.ensures.items) no_text

pub returns-in_default : goal.returns-in_default
returns-in_default c =
    let texts = YieldsList-at c.into_iter-text-iterator.ensures.into_iter_gives (YieldsList-from_str_split comma c.args.word.now (lit< tt) c.split-text-items.ensures.text c.split-text-items.ensures.has_more c.split-text-items.ensures.pattern) in
    let turn = YieldsList-turn texts c.loop-text.yielded c.loop-text.text-iterator c.loop-text.yielded_by c.next.result c.next.new.self c.in-Some.text c.in-Some.is c.next.ensures.steps in
    no_pairs c.args.word.now c.in-Some.text.now (length c.loop-text.yielded) turn.0 turn.1 c.in_default.ensures

pub loop-text-preserved : goal.loop-text-preserved
loop-text-preserved c =
    one_more_text _ _ c.in-Some.text.now c.loop-text.pairs.items c.push.new.self.items c.in-Some-read_pair.pair c.loop-text.invariant
    (map-append (λ (t : Bor (List ℕ)). t.now) c.loop-text.yielded (c.in-Some.text ∷ [])) c.in-Some-read_pair.ensures c.in_ok-push.ensures.items

pub returns : goal.returns
returns c =
    let texts = YieldsList-at c.into_iter-text-iterator.ensures.into_iter_gives (YieldsList-from_str_split comma c.args.word.now (lit< tt) c.split-text-items.ensures.text c.split-text-items.ensures.has_more c.split-text-items.ensures.pattern) in
    let all = YieldsList-end texts c.loop-text.yielded c.loop-text.text-iterator c.loop-text.yielded_by c.next.result c.next.new.self c.in-None.is c.next.ensures.steps in
    all_pairs c.args.word.now _ c.loop-text.pairs.items c.loop-text.invariant all.0
