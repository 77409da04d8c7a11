-- The dictionary that the server has without any file: the base's attributes and named values.
use Rattle.rad_dict.specs.Definitions.{Definitions}
use Rattle.rad_dict.specs.BaseAttributes.{base_attrs}
use Rattle.rad_dict.specs.BaseValues.{base_values}

-- The dictionary that needs no file.
abbrev pub base_definitions : Definitions
base_definitions = record { attrs = base_attrs; values = base_values }
