-- What was popped is the index at the top of the stack.
use Rattle.std.proofs.Common.{◌≡◌, ℕ, ◌-◌, ◌<◌, List, [], ◌∷◌, ◌++◌, length, get_or, take, sym, ap, ◌∙◌, subst, arith, set}
use Rattle.std.proofs.lemmas.List.{get_or_read, get_or_push, length_push, take_at}
use Rattle.pm_match.specs.steps.Waiting.{bud_at, with_leaf, top_of}
use Rattle.pm_match.proofs.pairing.meet.Goals as goal

record IsTop (stack rest : List ℕ) (index : ℕ) : Type 0 where
  some : 0 < length stack
  top : top_of stack ≡ index
  below : rest ≡ take (length stack - 1) stack

push_top : (rest : List ℕ) (index : ℕ) → IsTop (rest ++ index ∷ []) rest index
unfolding top_of
push_top rest index =
    let more = length_push rest index in
    record {
      some = omega arith;
      top = get_or_push rest index 0 (length (rest ++ index ∷ []) - 1) (omega arith);
      below = sym (take_at rest (index ∷ []) (length (rest ++ index ∷ []) - 1) (omega arith));
    }

top_is : (stack rest : List ℕ) (index : ℕ) → stack ≡ rest ++ index ∷ [] → IsTop stack rest index
top_is stack rest index e = subst (λ (s : List ℕ). IsTop s rest index) (sym e) (push_top rest index)

with_leaf_is : (pairs : List (ℕ × ℕ)) (k t leaf : ℕ) (pair : ℕ × ℕ) → k < length pairs → t ≡ k → pair ≡ get_or pairs k pair → set pairs k (pair.0, leaf) ≡ with_leaf pairs t leaf
unfolding with_leaf bud_at
with_leaf_is pairs k t leaf pair k_in e at =
    let read = get_or_read pairs k pair k_in at (0, 0) in
    ap (λ (p : ℕ × ℕ). set pairs k (p.0, leaf)) read ∙ ap (λ (j : ℕ). set pairs j ((get_or pairs j (0, 0)).0, leaf)) (sym e)

pub index-requires : goal.index-requires
index-requires c =
    let popped = top_is c.args.waiting.now.items c.pop.new.self.items c.in-Some.index c.in-Some.ensures.items in
    omega (arith, popped.top, c.requires popped.some)

pub index_mut-requires : goal.index_mut-requires
index_mut-requires c =
    let popped = top_is c.args.waiting.now.items c.pop.new.self.items c.in-Some.index c.in-Some.ensures.items in
    omega (arith, popped.top, c.requires popped.some)

pub returns-in-Some-clause-met : goal.returns-in-Some-clause-met
returns-in-Some-clause-met c =
    let popped = top_is c.args.waiting.now.items c.pop.new.self.items c.in-Some.index c.in-Some.ensures.items in
    let inside : c.in-Some.index < length c.args.pairs.now.items = omega (arith, popped.top, c.requires popped.some, c.args.pairs.now.ok.0) in
    record { some = popped.some; completed = with_leaf_is _ _ _ _ _ inside popped.top c.index.ensures; popped = popped.below }
