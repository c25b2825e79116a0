-- Each effect by its function.
use Rattle.std.proofs.Common.{refl, subst}
use Rattle.std.proofs.lemmas.Result.{err_from_is_err_and}
use Rattle.store.specs.declared.Effect.{Effect}
use Rattle.store.specs.Effects.{Fits, enacted}
use Rattle.machine.specs.Push.{PushNode, PushId, PutMark}
use Rattle.machine.specs.Containers.{MakesNode, Extends}
use Rattle.machine.specs.Memo.{Remembers}
use Rattle.machine.specs.Words.{SetsState}
use Rattle.machine.specs.RoomsOf.{rooms_of}
use Rattle.machine.specs.Applied.{Applies, push_lengths, share_lengths, mark_lengths, makeable, extendable, rememberable, buildable, goes_on, stops}
use Rattle.machine.proofs.apply.Goals as goal

pub push_node-requires : goal.push_node-requires
push_node-requires c = push_lengths _ _ _ _ _ (subst (λ (x : Effect). Fits x (rooms_of c.requires.lent c.requires.pickle c.args.nodes.now c.args.owners.now c.args.children.now c.args.stack.now c.args.marks.now c.args.keys.now c.args.held.now) c.args.had) c.in-Push.is c.requires.fits)

pub returns-in_err-next-in-Push : goal.returns-in_err-next-in-Push
unfolding Applies PushNode
returns-in_err-next-in-Push c = let p = err_from_is_err_and c.from_residual.result c.from_residual.ensures.1 in
    λ l p' f. rw (p.1, p.2, c.in-Push.is) (rw c.in_err-next-in-Push.was at (c.push_node.ensures _ _ refl refl (rw c.in-Push.is at f)))

pub returns-in_ok-next-in-Push : goal.returns-in_ok-next-in-Push
unfolding Applies PushNode
returns-in_ok-next-in-Push c = λ l p f. rw c.in-Push.is (rw c.in_ok-next-in-Push.was at (c.push_node.ensures _ _ refl refl (rw c.in-Push.is at f)))

pub push_id-requires : goal.push_id-requires
push_id-requires c = share_lengths _ _ _ _ (subst (λ (x : Effect). Fits x (rooms_of c.requires.lent c.requires.pickle c.args.nodes.now c.args.owners.now c.args.children.now c.args.stack.now c.args.marks.now c.args.keys.now c.args.held.now) c.args.had) c.in-Share.is c.requires.fits)

pub returns-in_err-next-in-Share : goal.returns-in_err-next-in-Share
unfolding Applies PushId
returns-in_err-next-in-Share c = let p = err_from_is_err_and c.from_residual-in_err-next-in-Share.result c.from_residual-in_err-next-in-Share.ensures.1 in
    λ l p' f. rw (p.1, p.2, c.in-Share.is) (rw c.in_err-next-in-Share.was at (c.push_id.ensures _ _ refl (rw c.in-Share.is at f)))

pub returns-in_ok-next-in-Share : goal.returns-in_ok-next-in-Share
unfolding Applies PushId
returns-in_ok-next-in-Share c = λ l p f. rw c.in-Share.is (rw c.in_ok-next-in-Share.was at (c.push_id.ensures _ _ refl (rw c.in-Share.is at f)))

pub put_mark-requires : goal.put_mark-requires
put_mark-requires c = mark_lengths _ _ _ (subst (λ (x : Effect). Fits x (rooms_of c.requires.lent c.requires.pickle c.args.nodes.now c.args.owners.now c.args.children.now c.args.stack.now c.args.marks.now c.args.keys.now c.args.held.now) c.args.had) c.in-Mark.is c.requires.fits)

pub returns-in_err-next-in-Mark : goal.returns-in_err-next-in-Mark
unfolding Applies PutMark
returns-in_err-next-in-Mark c = let p = err_from_is_err_and c.from_residual-in_err-next-in-Mark.result c.from_residual-in_err-next-in-Mark.ensures.1 in
    λ l p' f. rw (p.1, p.2, c.in-Mark.is) (rw c.in_err-next-in-Mark.was at (c.put_mark.ensures _ _ refl (rw c.in-Mark.is at f)))

pub returns-in_ok-next-in-Mark : goal.returns-in_ok-next-in-Mark
unfolding Applies PutMark
returns-in_ok-next-in-Mark c = λ l p f. rw c.in-Mark.is (rw c.in_ok-next-in-Mark.was at (c.put_mark.ensures _ _ refl (rw c.in-Mark.is at f)))

pub make-requires : goal.make-requires
make-requires c = makeable _ _ _ _ (subst (λ (x : Effect). Fits x (rooms_of c.requires.lent c.requires.pickle c.args.nodes.now c.args.owners.now c.args.children.now c.args.stack.now c.args.marks.now c.args.keys.now c.args.held.now) c.args.had) c.in-Make.is c.requires.fits)

pub returns-in_err-next-in-Make : goal.returns-in_err-next-in-Make
unfolding Applies MakesNode
returns-in_err-next-in-Make c = let p = err_from_is_err_and c.from_residual-in_err-next-in-Make.result c.from_residual-in_err-next-in-Make.ensures.1 in
    λ l p' f. rw (p.1, p.2, c.in-Make.is) (rw c.in_err-next-in-Make.was at (c.make.ensures _ refl refl refl refl (rw c.in-Make.is at f)))

pub returns-in_ok-next-in-Make : goal.returns-in_ok-next-in-Make
unfolding Applies MakesNode
returns-in_ok-next-in-Make c = λ l p f. rw c.in-Make.is (rw c.in_ok-next-in-Make.was at (c.make.ensures _ refl refl refl refl (rw c.in-Make.is at f)))

pub extend-requires : goal.extend-requires
extend-requires c = extendable _ _ _ _ (subst (λ (x : Effect). Fits x (rooms_of c.requires.lent c.requires.pickle c.args.nodes.now c.args.owners.now c.args.children.now c.args.stack.now c.args.marks.now c.args.keys.now c.args.held.now) c.args.had) c.in-Extend.is c.requires.fits)

pub returns-in_err-next-in-Extend : goal.returns-in_err-next-in-Extend
unfolding Applies Extends
returns-in_err-next-in-Extend c = let p = err_from_is_err_and c.from_residual-in_err-next-in-Extend.result c.from_residual-in_err-next-in-Extend.ensures.1 in
    λ l p' f. rw (p.1, p.2, c.in-Extend.is) (rw c.in_err-next-in-Extend.was at (c.extend.ensures _ refl refl refl refl (rw c.in-Extend.is at f)))

pub returns-in_ok-next-in-Extend : goal.returns-in_ok-next-in-Extend
unfolding Applies Extends
returns-in_ok-next-in-Extend c = λ l p f. rw c.in-Extend.is (rw c.in_ok-next-in-Extend.was at (c.extend.ensures _ refl refl refl refl (rw c.in-Extend.is at f)))

pub remember-requires : goal.remember-requires
remember-requires c = rememberable _ _ _ _ _ _ (subst (λ (x : Effect). Fits x (rooms_of c.requires.lent c.requires.pickle c.args.nodes.now c.args.owners.now c.args.children.now c.args.stack.now c.args.marks.now c.args.keys.now c.args.held.now) c.args.had) c.in-Remember.is c.requires.fits)

pub returns-in_err-next-in-Remember : goal.returns-in_err-next-in-Remember
unfolding Applies Remembers Fits enacted
returns-in_err-next-in-Remember c = let p = err_from_is_err_and c.from_residual-in_err-next-in-Remember.result c.from_residual-in_err-next-in-Remember.ensures.1 in
    λ l p' f. rw (p.1, p.2, c.in-Remember.is) (rw c.in_err-next-in-Remember.was at (c.remember.ensures _ c.args.had refl refl (rw c.in-Remember.is at f)))

pub returns-in_ok-next-in-Remember : goal.returns-in_ok-next-in-Remember
unfolding Applies Remembers Fits enacted
returns-in_ok-next-in-Remember c = λ l p f. rw c.in-Remember.is (rw c.in_ok-next-in-Remember.was at (c.remember.ensures _ c.args.had refl refl (rw c.in-Remember.is at f)))

pub set_state-next-requires : goal.set_state-next-requires
set_state-next-requires c = buildable _ _ _ _ _ (subst (λ (x : Effect). Fits x (rooms_of c.requires.lent c.requires.pickle c.args.nodes.now c.args.owners.now c.args.children.now c.args.stack.now c.args.marks.now c.args.keys.now c.args.held.now) c.args.had) c.in-Build.is c.requires.fits)

pub returns-in-Build : goal.returns-in-Build
unfolding Applies SetsState
returns-in-Build c = λ l p f. rw c.in-Build.is (c.set_state-next.ensures _ _ refl (rw c.in-Build.is at f))

pub returns-in-Go : goal.returns-in-Go
unfolding Applies
returns-in-Go c = λ l p f. rw c.in-Go.is (goes_on _ _ _ (rw c.in-Go.is at f))

pub returns-in-Stop : goal.returns-in-Stop
unfolding Applies
returns-in-Stop c = λ l p f. rw c.in-Stop.is (stops _ _ _ (rw c.in-Stop.is at f))
