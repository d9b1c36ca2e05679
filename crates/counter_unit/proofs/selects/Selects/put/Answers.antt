use Rattle.counter_unit.specs.declared.selects.Key.TheVariants as key
use Rattle.counter_unit.proofs.Words.{ap, ◌∙◌, bit_of}
use Rattle.counter_unit.proofs.Tables.{AreMarked-at, AreMarked-put, modified_put}
use Rattle.counter_unit.proofs.selects.Selects.put.Goals as goal

pub returns : goal.returns
returns c rs exists stood h =
    let was = c.code_of-was.ensures in
    let is = c.code_of-is.ensures in
    record {
      user = AreMarked-at key.User _ _ _ rs c.args.c _ _ _ c.args.place.now exists stood (λ code low e. (was code e).0) (λ code low e. (is code e).0) c.mark_at.ensures c.mark_at-2.ensures h.user;
      kernel = AreMarked-at key.Kernel _ _ _ rs c.args.c _ _ _ c.args.place.now exists stood (λ code low e. (was code e).1) (λ code low e. (is code e).1) c.mark_at-3.ensures c.mark_at-4.ensures h.kernel;
      umasks = AreMarked-put key.Umask _ _ rs c.args.c c.args.place.now exists c.mark.ensures h.umasks;
      comps = AreMarked-at key.Comp _ _ _ rs c.args.c _ _ _ c.args.place.now exists stood c.comp_of.ensures c.comp_of-2.ensures c.mark_at-5.ensures c.mark_at-6.ensures h.comps;
      modified = modified_put _ _ rs c.args.c c.args.place.now exists (c.with_bit-self.ensures.here ∙ ap bit_of c.is_modified.ensures) c.with_bit-self.ensures.there h.modified;
    }
