-- What is the same as a closure is a closure of the same tree.
use Rattle.std.proofs.Common.{ℕ, ◌<◌, ap, ◌∙◌, sym, subst, arith}
use Rattle.pm_perm.proofs.InverseLemmas.{place_of, place_of-stays, value-place_of}
use Rattle.pm_triclose.specs.Closure.{a_to_b}
use Rattle.pm_triclose.specs.ClosureLaws.{ClosuresAreRenamed}

pub closures_renamed : ClosuresAreRenamed
closures_renamed places one other (rename, c) (number, n) =
    let some : 0 < one.darts = (let l = n.within a_to_b tt in omega (arith, l)) in
    let darts = c.darts in (
      λ x. rename (number x),
      record {
        within = λ x h. subst (λ (d : ℕ). rename (number x) < d) darts (c.renumbers.stays (number x) (n.within x h));
        different = λ x y h i e. n.different x y h i (c.renumbers.injective (number x) (number y) (n.within x h) (n.within y i) e);
        all = λ d l.
            let inside : d < one.darts = omega (arith, l, darts) in
            let found = n.all (place_of rename one.darts d) (place_of-stays rename one.darts d c.renumbers inside) in
            (found.0, found.1, ap rename found.2 ∙ value-place_of rename one.darts d c.renumbers inside);
        root = sym (c.root some) ∙ ap rename n.root;
        next = λ x y h f. sym (c.next (number x) (n.within x h)) ∙ ap rename (n.next x y h f);
        twin = λ x y h f. sym (c.twin (number x) (n.within x h)) ∙ ap rename (n.twin x y h f);
      },
    )
