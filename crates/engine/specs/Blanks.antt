-- Blank entries of the two tables: every field is 0.
use Rattle.std.specs.Prelude.{replicate}
use Rattle.meaning.specs.declared.node.Node.{Node}
use Rattle.meaning.specs.declared.run.Start.{Start}
use Rattle.input.specs.declared.window.Window.{Window}
use Rattle.engine.specs.declared.frame.Frame.{Frame}

abbrev pub nowhere : Window
nowhere = record { left = 0; right = 0 }

abbrev pub blank_node : Node
blank_node = record { number = 0; alternative = 0; parent = 0; term = 0; window = nowhere; used = nowhere; slots = replicate 8 0 }

abbrev pub no_start : Start
no_start = record { number = 0; parent = 0; term = 0; node = 0; window = nowhere }

abbrev pub blank_frame : Frame
blank_frame = record { what = no_start; alt = 0; place = 0; next = 0; after = 0; used = nowhere }
