-- All links of a container: its number, its items, and their count.
use Rattle.std.proofs.Common.{◌≡◌, ℕ, ◌+◌, ◌-◌, ◌<◌, ◌∙◌, refl, length, get_or, arith, rules, get_or-take, get_or-drop}
use Rattle.machine.specs.Links.{link-rooms, link_end, filled_part}
use Rattle.machine.proofs.effects.link_all.Goals as goal

pub overflow_add-nodes-2 : goal.overflow_add-nodes-2
overflow_add-nodes-2 c = let a = c.requires in let v = link-rooms _ _ _ _ _ _ _ _ a in omega (arith, a.room)

pub returns : goal.returns
returns c =
    let a = c.requires in
    let v = link-rooms _ _ _ _ _ _ _ _ a in
    let n = c.args.to - c.args.from in
    let links = c.args.links in
    let stack = c.args.stack.now in
    let z : links + n - links ≡ n = omega arith in
    let many : length c.fill.new.self ≡ n = search rules in
    let owned : (k : ℕ) → k < n → get_or c.fill.new.self k 0 ≡ c.args.owner.0 = search rules in
    let copied : length c.copy_from_slice.new.self ≡ n = search rules in
    let held : (k : ℕ) → k < n → get_or c.copy_from_slice.new.self k 0 ≡ get_or stack (c.args.from + k) 0 = λ k h. rw c.copy_from_slice.ensures.after (get_or-take _ _ k 0 (omega arith) ∙ get_or-drop c.args.from stack k 0) in
    let owners = filled_part c.args.owners.now links (λ k. c.args.owner.0) n c.fill.new.self (omega (arith, a.room)) many owned in
    let children = filled_part c.args.children.now links (λ k. get_or stack (c.args.from + k) 0) n c.copy_from_slice.new.self (omega (arith, a.room)) copied held in
    (refl, rw (z, owners, children) (link_end _ _ _ _ _ _ _ _ a))
