mod Text
mod Examples
