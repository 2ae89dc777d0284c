-- What a parse answers, and what it leaves in the two tables.
use Rattle.std.specs.Prelude.{ℕ, ◌-◌, Bool, cond, ◌&&◌, List, ◌++◌, map, length, take, replicate, Ok, Err, Result, nat_le, nat_lt}
use Rattle.input.specs.Bytes.{in_order, window_of}
use Rattle.fields.specs.Fields.{Fields}
use Rattle.meaning.specs.Syntax.{Grammar}
use Rattle.meaning.specs.Meaning as meaning
use Rattle.meaning.specs.declared.node.Node.{Node}
use Rattle.engine.specs.Places.{placed, absolute}
use Rattle.engine.specs.Blanks.{blank_node, blank_frame}
use Rattle.engine.specs.declared.frame.Frame.{Frame}
use Rattle.engine.specs.declared.outcome.Outcome.{Outcome}
use Rattle.engine.specs.declared.outcome.Refusal.{Refusal}
use Rattle.engine.specs.declared.outcome.Refusal.TheVariants.{UnknownRule, BadWindow, BadLimits}

-- ---- What is left behind

-- an outcome or a refusal, and what the two tables then hold
pub record After : Type 0 where
  pub outcome : Result Outcome Refusal
  pub frames : List Frame
  pub nodes : List Node

-- of what a parse means, in tables of so many frames and nodes: the nodes of a match, and else blanks
unfoldable pub leaves : (left frames nodes : ℕ) → meaning.Outcome → After
leaves left frames nodes o = record {
  outcome = Ok (record { answer = o.answer; nodes = length o.nodes; starts = o.starts; reach = placed left o.reach });
  frames = replicate frames blank_frame;
  nodes = map (absolute left) o.nodes ++ replicate (nodes - length o.nodes) blank_node;
}

-- ---- Refusals

-- a budget of 1 to 1,000,000, 1 to 4,096 frames, and 1 to 65,535 nodes
unfoldable pub allowed : (budget frames nodes : ℕ) → Bool
allowed budget frames nodes = nat_le 1 budget && nat_le budget 1000000 && nat_le 1 frames && nat_le frames 4096 && nat_le 1 nodes && nat_le nodes 65535

-- ---- A parse of the window left right of some bytes. The causes of a refusal are tested in this order, and a refusal
-- leaves both tables as they were
unfoldable pub parse_after : Fields → Grammar → (bytes : List ℕ) → (rule left right budget : ℕ) → List Frame → List Node → After
parse_after fields grammar bytes rule left right budget frames nodes =
    cond (nat_lt rule (length grammar))
    (cond (in_order left right (length bytes))
    (cond (allowed budget (length frames) (length nodes))
    (leaves left (length frames) (length nodes)
    (meaning.parse fields grammar (record { budget = budget; frames = length frames; nodes = length nodes }) rule (window_of bytes left right)))
    (record { outcome = Err BadLimits; frames = frames; nodes = nodes }))
    (record { outcome = Err BadWindow; frames = frames; nodes = nodes }))
    (record { outcome = Err UnknownRule; frames = frames; nodes = nodes })

-- ---- Words of the contracts inside

-- how a parse ended, with its node table, in places of the window
abbrev pub told : Outcome → List Node → meaning.Outcome
told r nodes = record { answer = r.answer; nodes = take r.nodes nodes; starts = r.starts; reach = r.reach }
