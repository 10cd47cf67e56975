use Rattle.std.proofs.Common.{ℕ, List, ◌∙◌, ap₂, refl, subst, arith}
use Rattle.std.proofs.lemmas.List.{get_or_default}
use Rattle.pm_words.specs.Word.{IsGoodStarts, turned}
use Rattle.pm_objects.specs.Objects.{letters_of}
use Rattle.pm_trisample.proofs.TriObjects.{tri_objects_read}
use Rattle.pm_trisample.proofs.objects.objects_of_code.Goals as goal

pub returns : goal.returns
returns c =
    tri_objects_read c.args.n c.args.code.now c.in_ok-arrangement.arrangement.items c.in_ok-objects.objects.items c.in_ok-starts.starts.items c.args.which c.index-start.result.now c.in_ok-arrangement.ensures.arranged
    (subst (λ (arities : List ℕ). IsGoodStarts 2 (letters_of arities c.in_ok-arrangement.arrangement.items) c.in_ok-starts.starts.items) c.requires.arities
    (subst (λ (arrangement : List ℕ). IsGoodStarts 2 (letters_of c.args.arities.now arrangement) c.in_ok-starts.starts.items) c.deref.ensures.value c.in_ok-starts.ensures))
    c.requires.which
    (c.index-start.ensures ∙ get_or_default c.in_ok-starts.starts.items c.args.which c.index-start.result.now 0 (let many = c.in_ok-starts.ensures.as_many in let low = c.requires.which in omega (arith, many, low)))
    (c.in_ok-objects.ensures.turned ∙ ap₂ (λ (n : ℕ) (xs : List ℕ). turned n xs) refl c.deref-2.ensures.value)
