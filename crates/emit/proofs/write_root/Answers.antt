-- A root that is to be walked, and one that is not.
use Rattle.std.proofs.Common.{sym, ◌∙◌}
use Rattle.emit.specs.Calls.{ready_most, ready_inside}
use Rattle.emit.specs.Roots.{root_ready, root_open, root_flat, root_wrote, root_made}
use Rattle.emit.proofs.write_root.Goals as goal

pub is_open-requires : goal.is_open-requires
is_open-requires c = let R = root_ready c.requires in record { node_in_bounds = ready_inside R; node_bound = ready_most R }

pub write-requires : goal.write-requires
write-requires c = root_open c.requires (sym c.is_open.ensures ∙ c.if-is_open.true)

pub returns-then-is_open : goal.returns-then-is_open
returns-then-is_open c G = let w = sym c.is_open.ensures ∙ c.if-is_open.true in root_wrote G w _ _ _ _ (c.write.ensures (root_open G w))

pub write_flat-requires : goal.write_flat-requires
write_flat-requires c = root_flat c.requires (sym c.is_open.ensures ∙ c.if-is_open.false)

pub returns-else-is_open : goal.returns-else-is_open
returns-else-is_open c G = let w = sym c.is_open.ensures ∙ c.if-is_open.false in root_made G w _ _ _ (c.write_flat.ensures (root_flat G w))
