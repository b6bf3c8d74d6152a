use Rattle.sf_decode.specs.View.{table_of, function_of, section_bytes, section_address}
use Rattle.sf_lookup.proofs.Checked.{IsSound, sound_numbered}
use Rattle.sf_lookup.proofs.sound.function_is_sound.Goals as goal

sound : (c : goal.After-functions_are_numbered) → IsSound (table_of c.args.view.now).arch (function_of c.args.view.now c.args.i)
sound c =
    let f = function_of c.args.view.now c.args.i in
    sound_numbered (section_bytes c.args.view.now) (section_address c.args.view.now) (table_of c.args.view.now) c.args.i f c.view_is_a_section.ensures c.requires (c.functions_are_numbered.ensures c.args.i f c.requires)

pub returns-clause-rise : goal.returns-clause-rise
returns-clause-rise c = (sound c).rise

pub returns-clause-shape : goal.returns-clause-shape
returns-clause-shape c = (sound c).shape

pub returns-clause-fits : goal.returns-clause-fits
returns-clause-fits c = (sound c).fits
